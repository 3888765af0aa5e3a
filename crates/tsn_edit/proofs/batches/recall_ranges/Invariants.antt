use Rattle.std.proofs.Common.{length}
use Rattle.tsn_edit.specs.Batches.{EditsInRange}
use Rattle.tsn_edit.proofs.batches.recall_ranges.Given as goal

-- all are in their ranges if those that are left are
abbrev pub invariant-loop-rest : goal.invariant-loop-rest
invariant-loop-rest l = EditsInRange l.rest → EditsInRange l.edits

abbrev pub decreases-loop-rest : goal.decreases-loop-rest
decreases-loop-rest l = length l.rest
