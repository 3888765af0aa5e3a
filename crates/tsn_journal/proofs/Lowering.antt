-- The newest nodes of groups that are set back to where their last entries are.
use Rattle.std.proofs.Common.{◌≡◌, ℕ, ◌+◌, List, [], length, arith, subst, sym}
use Rattle.std.proofs.lemmas.Grind.{common_steps}
use Rattle.tsn_entries.specs.declared.entries.MarkedEntry.{MarkedEntry}
use Rattle.tsn_journal.specs.declared.groups.Group.{Group}
use Rattle.tsn_journal.specs.declared.index.Index.{Index}
use Rattle.tsn_journal.specs.declared.index.Node.{Node}
use Rattle.tsn_journal.specs.Index.{IsIndexed, IsIndexedBut, IsLast, belongs, set_at}
use Rattle.tsn_journal.specs.Latest.{latest_of}
use Rattle.tsn_journal.proofs.Grouping.{one_group}

pub index_lowered : (ms : List MarkedEntry) (ps : List Node) (l : Group → ℕ) (g : Group) (j : ℕ) → IsIndexedBut [] ms ps l
    → IsLast g (belongs g) ms ps j (length ms + 1) → IsIndexedBut [] ms ps (set_at g j l)
index_lowered ms ps l g j is last = grind (arith, common_steps, one_group)

-- the newest node of a group, as it is told, is the last of the group
pub newest_told : (g : Group) (ms : List MarkedEntry) (a : Index) (j : ℕ) → IsIndexed ms a → j ≡ latest_of a.latest g
    → IsLast g (belongs g) ms a.nodes.items j (length ms + 1)
newest_told g ms a j is told = subst (λ k. IsLast g (belongs g) ms a.nodes.items k (length ms + 1)) (sym told) (is.latest_is g)
