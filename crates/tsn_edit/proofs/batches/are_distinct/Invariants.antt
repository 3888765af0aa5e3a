use Rattle.std.proofs.Common.{◌≡◌, length}
use Rattle.tsn_edit.specs.Batches.{are_distinct, edited_keys}
use Rattle.tsn_edit.proofs.batches.are_distinct.Given as goal

-- no key so far stands again later
abbrev pub invariant-loop-rest : goal.invariant-loop-rest
invariant-loop-rest l = are_distinct (edited_keys l.rest) ≡ are_distinct (edited_keys l.edits)

abbrev pub decreases-loop-rest : goal.decreases-loop-rest
decreases-loop-rest l = length l.rest
