use Rattle.tsn_recorded.proofs.Readings.{are_recorded-append, last_digest-append, text_after-append}
use Rattle.tsn_recorded.proofs.laws.appends.Goals as goal

pub returns : goal.returns
returns c = record { text = text_after-append; digest = last_digest-append; recorded = are_recorded-append }
