use Rattle.std.proofs.Common.{arith}
use Rattle.tsn_journal.proofs.Collecting.{since-drop}
use Rattle.tsn_journal.proofs.journal.Journal.kept_since.Goals as goal

pub returns : goal.returns
returns c = grind (arith, since-drop)
