use Rattle.std.proofs.Common.{◌+◌, length}
use Rattle.tsn_journal.specs.Index.{IsLast, belongs}
use Rattle.tsn_journal.proofs.index.Index.first_from.Given as goal

abbrev pub invariant-back : goal.invariant-back
invariant-back l = IsLast l.group (belongs l.group) l.marked l.self.nodes.items l.node (length l.marked + 1)

abbrev pub decreases-back : goal.decreases-back
decreases-back l = l.node
