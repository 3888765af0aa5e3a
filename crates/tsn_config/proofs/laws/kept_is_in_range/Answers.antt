use Rattle.tsn_config.proofs.Ranges.{kept_in_range}
use Rattle.tsn_config.proofs.laws.kept_is_in_range.Goals as goal

pub returns : goal.returns
returns c = kept_in_range
