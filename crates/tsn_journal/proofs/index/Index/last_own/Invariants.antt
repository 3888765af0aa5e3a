use Rattle.std.proofs.Common.{◌≡◌, ◌+◌, ◌≤◌, Bool, true, ◌&&◌, length}
use Rattle.tsn_entries.specs.Tests.{Tests}
use Rattle.tsn_journal.specs.Index.{NoneBetween, NoneFrom, is_of, number_at, node_at}
use Rattle.tsn_entries.specs.Marks.{is_own}
use Rattle.tsn_entries.specs.declared.entries.MarkedEntry.{MarkedEntry}
use Rattle.tsn_journal.specs.declared.groups.Group.TheVariants.{Of}
use Rattle.tsn_journal.proofs.index.Index.last_own.Given as goal

abbrev pub invariant-back : goal.invariant-back
invariant-back g l = record {
  within : l.node ≤ length l.self.nodes.items;
  group : is_of (Of l.session) (node_at l.self.nodes.items l.node) ≡ true;
  none_later : (p : MarkedEntry → Bool) → Tests g.F.Fn p l.test → NoneFrom (λ m. is_own l.session m && p m) l.marked l.upto
      → NoneBetween (λ m. is_own l.session m && p m) l.marked (number_at l.self.nodes.items l.node) (length l.marked + 1);
}

abbrev pub decreases-back : goal.decreases-back
decreases-back g l = l.node
