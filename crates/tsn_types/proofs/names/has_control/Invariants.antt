use Rattle.std.proofs.Common.{◌≡◌, length}
use Rattle.tsn_types.specs.Names.{has_control}
use Rattle.tsn_types.proofs.names.has_control.Given as goal

-- what is left ends one where the whole does
abbrev pub invariant-loop-rest : goal.invariant-loop-rest
invariant-loop-rest l = has_control 0 l.bytes ≡ has_control l.last l.rest

abbrev pub decreases-loop-rest : goal.decreases-loop-rest
decreases-loop-rest l = length l.rest
