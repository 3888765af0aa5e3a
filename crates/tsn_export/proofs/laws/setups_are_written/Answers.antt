use Rattle.std.specs.Fmt.{digits}
use Rattle.tsn_export.proofs.Written.{standard_written, whole_written}
use Rattle.tsn_export.proofs.laws.setups_are_written.Goals as goal

pub returns : goal.returns
unfolding digits
returns c = assumption (standard_written, whole_written)
