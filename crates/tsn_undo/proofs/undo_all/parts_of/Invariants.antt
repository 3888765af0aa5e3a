use Rattle.std.proofs.Common.{◌≡◌, ◌*◌, ◌≤◌, take}
use Rattle.tsn_undo.specs.UndoAll.{room_left}
use Rattle.tsn_undo.proofs.undo_all.parts_of.Given as goal

-- the parts of those so far, at most 16 each
abbrev pub invariant-loop-back : goal.invariant-loop-back
invariant-loop-back l = record {
  parts : l.parts ≡ room_left (take l.back-index l.backs);
  few : l.parts ≤ 16 * l.back-index;
}
