use Rattle.std.proofs.Common.{take}
use Rattle.tsn_edit.specs.Changes.{keys_of, refs_after}
use Rattle.tsn_journal.specs.Touched.{KeepsNodes, Told}
use Rattle.tsn_journal.proofs.index.Index.touch_parts.Given as goal

-- the parts before are told, and the nodes stay
abbrev pub invariant-loop-part : goal.invariant-loop-part
invariant-loop-part l = record {
  told : Told l.number (keys_of (take l.part-index l.parts)) (refs_after (take l.part-index l.parts)) l.initial.self l.self;
  kept : KeepsNodes l.initial.self l.self;
}
