use Rattle.std.proofs.Common.{◌≡◌, ◌++◌, drop, map, take}
use Rattle.tsn_edit.specs.Parts.{inverse_part}
use Rattle.tsn_edit.proofs.taken_back.Given as goal

-- the parts so far are swapped
abbrev pub invariant-loop-part : goal.invariant-loop-part
invariant-loop-part l = l.part-items ≡ map inverse_part (take l.part-index l.fn.parts.items) ++ drop l.part-index l.fn.parts.items
