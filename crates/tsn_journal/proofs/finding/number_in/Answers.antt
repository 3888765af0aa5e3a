use Rattle.std.proofs.Common.{arith}
use Rattle.std.proofs.Math.Bool.{and-true}
use Rattle.tsn_journal.proofs.Sought.{later_last}
use Rattle.tsn_journal.proofs.finding.number_in.Goals as goal

pub returns-in-None : goal.returns-in-None
returns-in-None c = grind (arith, and-true, later_last)
