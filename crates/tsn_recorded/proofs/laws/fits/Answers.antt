use Rattle.tsn_recorded.proofs.Lengths.{all_recorded, are_recorded_after, is_recorded_after}
use Rattle.tsn_recorded.proofs.laws.fits.Goals as goal

pub returns : goal.returns
returns c = record { one = is_recorded_after; all = are_recorded_after; recorded = all_recorded }
