use Rattle.std.proofs.Common.{◌≡◌, take}
use Rattle.std.specs.Vec.{vec_capacity, vec_len}
use Rattle.tsn_edit.proofs.copies.Given as goal

-- the parts so far are copied, into room for all of them
abbrev pub invariant-loop-part : goal.invariant-loop-part
invariant-loop-part l =
    (l.copy.items ≡ take l.part-index l.parts.items) × ((vec_len l.copy ≡ l.part-index) × (vec_capacity l.copy ≡ vec_len l.parts))
