use Rattle.std.proofs.Common.{◌≡◌, ◌+◌, ◌-◌, ◌≤◌, [], ℕ, suc, Some, vec_len, vec_capacity, slice_get}
use Rattle.tsn_desk.specs.Desks.{first_of, IsFresh}
use Rattle.tsn_desk.specs.Rule.{dealt}
use Rattle.tsn_desk.proofs.desk.Desk.deal.Given as goal

abbrev pub invariant-loop : goal.invariant-loop
invariant-loop g l =
    (l.seat.table_id ≡ l.initial.seat.table_id)
    × (l.seat.me ≡ (dealt (first_of l.self) l.counter (suc (l.fn.seats - l.counter)), []))
    × (vec_len l.row + 1 ≡ l.counter)
    × (l.fn.seats ≤ vec_capacity l.row)
    × ((k : ℕ) (s : _) → slice_get l.row.items k ≡ Some s → IsFresh l.self s (k + 1))
