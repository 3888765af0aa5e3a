use Rattle.std.proofs.Common.{◌+◌, length}
use Rattle.tsn_journal.specs.Index.{IsLast, belongs_to_others}
use Rattle.tsn_journal.proofs.index.Index.last_of_others.Given as goal

-- no later entry of another session belongs to the group
abbrev pub invariant-back : goal.invariant-back
invariant-back l = IsLast l.group (belongs_to_others l.group l.session) l.marked l.self.nodes.items l.node (length l.marked + 1)

abbrev pub decreases-back : goal.decreases-back
decreases-back l = l.node
