use Rattle.std.proofs.Common.{arith}
use Rattle.tsn_entries.proofs.LastWhere.{found_here}
use Rattle.tsn_entries.proofs.entries.last.Goals as goal

pub returns-then-test : goal.returns-then-test
returns-then-test g c = λ p answers. grind (arith, found_here)
