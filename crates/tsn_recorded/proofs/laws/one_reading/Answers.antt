use Rattle.tsn_recorded.proofs.Readings.{longest_front, same_end, same_reading}
use Rattle.tsn_recorded.proofs.laws.one_reading.Goals as goal

pub returns : goal.returns
returns c = record { recorded = same_reading; longest = longest_front; end = same_end }
