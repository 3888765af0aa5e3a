use Rattle.std.proofs.Common.{length}
use Rattle.std.specs.List.{AllByRecursion}
use Rattle.tsn_wire.specs.Lines.{IsSoundEdit}
use Rattle.tsn_wire.proofs.any_edits.are_sound.Given as goal

-- all are sound, where those that are left are
abbrev pub invariant-loop-rest : goal.invariant-loop-rest
invariant-loop-rest l = AllByRecursion IsSoundEdit l.rest → AllByRecursion IsSoundEdit l.edits

abbrev pub decreases-loop-rest : goal.decreases-loop-rest
decreases-loop-rest l = length l.rest
