use Rattle.std.proofs.Common.{◌≡◌, ◌*◌, ◌+◌, ◌≤◌, true, drop, filter, length}
use Rattle.tsn_journal.specs.Index.{belongs, is_of, number_at, node_at}
use Rattle.tsn_entries.specs.Marks.{IsTally}
use Rattle.tsn_journal.specs.declared.groups.Group.TheVariants.{Of}
use Rattle.tsn_journal.proofs.index.Index.tally_of.Given as goal

abbrev pub invariant-back : goal.invariant-back
invariant-back l = record {
  within : l.node ≤ length l.self.nodes.items;
  group : is_of (Of l.session) (node_at l.self.nodes.items l.node) ≡ true;
  so_far : IsTally l.entries l.parts (filter (belongs (Of l.session)) (drop (number_at l.self.nodes.items l.node) l.marked));
  few : l.entries ≤ l.passed;
  few_parts : l.parts ≤ 16 * l.passed;
  counted : l.passed + l.node ≤ l.initial.node;
}

abbrev pub decreases-back : goal.decreases-back
decreases-back l = l.node
