use Rattle.std.proofs.Common.{refl}
use Rattle.std.specs.Fmt.{digits}
use Rattle.tsn_remarks.proofs.Written.{whole_written}
use Rattle.tsn_remarks.proofs.laws.remarks_are_written.Goals as goal

pub returns : goal.returns
unfolding digits
returns c = record { filled = refl; short = refl; empty = refl; unreferred = refl; whole = whole_written }
