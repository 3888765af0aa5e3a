use Rattle.std.proofs.Common.{◌≡◌, ◌≤◌, true, drop, filter, length, map}
use Rattle.std.specs.Prelude.{reverse}
use Rattle.tsn_journal.specs.Index.{belongs, is_of, number_at, node_at}
use Rattle.tsn_journal.specs.declared.groups.Group.TheVariants.{Of}
use Rattle.tsn_journal.proofs.index.Index.numbers_of.Given as goal

abbrev pub invariant-back : goal.invariant-back
invariant-back l = record {
  within : l.node ≤ length l.self.nodes.items;
  group : is_of (Of l.session) (node_at l.self.nodes.items l.node) ≡ true;
  so_far : reverse l.found.items ≡ map (λ m. m.entry.number)
      (filter (belongs (Of l.session)) (drop (number_at l.self.nodes.items l.node) l.marked));
}

abbrev pub decreases-back : goal.decreases-back
decreases-back l = l.node
