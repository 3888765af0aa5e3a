use Rattle.std.proofs.Common.{◌++◌, ◌*◌, drop, take}
use Rattle.tsn_edit.specs.Changes.{keys_of, refs_after}
use Rattle.tsn_journal.specs.Index.{IsIndexedBut, TakesRoom, groups_of_parts}
use Rattle.tsn_journal.specs.Latest.{latest_of}
use Rattle.tsn_journal.specs.Newest.{KeepsNewest}
use Rattle.tsn_journal.specs.Touched.{Told}
use Rattle.tsn_journal.proofs.Entering.{of_session}
use Rattle.tsn_journal.proofs.index.Index.enter_change.Given as goal

-- the groups of the parts that are left are pending, the parts before are told, and of the room three nodes are taken for each of them
abbrev pub invariant-loop-part : goal.invariant-loop-part
invariant-loop-part l = record {
  pending : IsIndexedBut (groups_of_parts (drop l.part-index l.parts) ++ of_session l.session l.ends) l.marked l.self.nodes.items
      (latest_of l.self.latest);
  newest : KeepsNewest l.marked l.initial.self l.self;
  told : Told l.number (keys_of (take l.part-index l.parts)) (refs_after (take l.part-index l.parts)) l.initial.self l.self;
  room : TakesRoom (3 * l.part-index) l.initial.self l.self;
}
