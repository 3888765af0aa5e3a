use Rattle.std.proofs.Common.{◌≤◌, ◌<◌, ◌-◌, length, drop, vec_len, vec_capacity}
use Rattle.tsn_serve.specs.Lots.{IsLot}
use Rattle.tsn_serve.proofs.lots.read_lot.Given as goal

-- what was read is a lot up to the bytes that are done
abbrev pub invariant-lines : goal.invariant-lines
invariant-lines l =
    IsLot l.bytes l.lot.items (drop l.done l.bytes)
    × (l.done ≤ length l.bytes)
    × (0 < vec_len l.lot)
    × (64 ≤ vec_capacity l.lot)

abbrev pub decreases-lines : goal.decreases-lines
decreases-lines l = length l.bytes - l.done
