use Rattle.std.proofs.Common.{◌*◌, ◌≤◌, filter, take}
use Rattle.tsn_journal.specs.Index.{belongs}
use Rattle.tsn_entries.specs.Marks.{IsTally}
use Rattle.tsn_journal.specs.declared.groups.Group.TheVariants.{Of}
use Rattle.tsn_journal.proofs.index.tally_own.Given as goal

abbrev pub invariant-loop-entry : goal.invariant-loop-entry
invariant-loop-entry l = record {
  tally : IsTally l.entries l.parts (filter (belongs (Of l.session)) (take l.entry-index l.marked));
  few : l.entries ≤ l.entry-index;
  few_parts : l.parts ≤ 16 * l.entry-index;
}
