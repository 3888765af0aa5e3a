use Rattle.std.proofs.Common.{◌≡◌, length}
use Rattle.tsn_edit.specs.Changes.{part_of}
use Rattle.tsn_edit.proofs.find_part.Given as goal

-- the part is among the rest
abbrev pub invariant-loop-part : goal.invariant-loop-part
invariant-loop-part l = part_of l.key l.rest ≡ part_of l.key l.parts

abbrev pub decreases-loop-part : goal.decreases-loop-part
decreases-loop-part l = length l.rest
