use Rattle.std.proofs.Common.{drop, arith}
use Rattle.tsn_journal.proofs.Sought.{never}
use Rattle.tsn_journal.proofs.finding.number_on.Goals as goal

pub returns-in-None : goal.returns-in-None
returns-in-None c = grind (arith, never (drop c.args.after c.args.marked.now))
