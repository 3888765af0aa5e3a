use Rattle.std.proofs.Common.{◌≡◌, length}
use Rattle.tsn_wire.specs.Batches.{drafted_keys, drafts_are_distinct}
use Rattle.tsn_wire.proofs.drafts.are_distinct.Given as goal

-- no key so far stands again later
abbrev pub invariant-loop-rest : goal.invariant-loop-rest
invariant-loop-rest l = drafts_are_distinct (drafted_keys l.rest) ≡ drafts_are_distinct (drafted_keys l.edits)

abbrev pub decreases-loop-rest : goal.decreases-loop-rest
decreases-loop-rest l = length l.rest
