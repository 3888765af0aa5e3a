use Rattle.std.proofs.Common.{arith}
use Rattle.tsn_journal.proofs.Bounding.{part_crosses}
use Rattle.tsn_journal.proofs.crossed.crossed_by_part.Goals as goal

pub returns-else-is_referred-clause-free : goal.returns-else-is_referred-clause-free
returns-else-is_referred-clause-free c = λ i e le at. grind (arith, part_crosses)
