use Rattle.std.proofs.Common.{◌≡◌, ◌++◌, ℕ, List, Option, Some, map, slice_get}
use Rattle.atomic_table.specs.declared.shared.Seat.{Seat}
use Rattle.tsn_desk.specs.declared.board.View.{View}
use Rattle.tsn_desk.specs.Seats.{IsAtRest}
use Rattle.tsn_desk.specs.Desks.{IsSeatOf}
use Rattle.tsn_desk.proofs.Closing.{all_calls, AllBegin, AllOne}
use Rattle.tsn_desk.proofs.desk.Desk.close.Given as goal

abbrev pub invariant-loop-other : goal.invariant-loop-other
invariant-loop-other g l =
    IsAtRest l.self.table l.seat
    × ((k : ℕ) (s : _) → slice_get l.seats.items k ≡ Some s → IsSeatOf l.self s)
    × ((popped : List (Seat (Option g.row.M.Denot) (View g.row.M.Denot g.row.M-Request.Denot g.row.M-Reply.Denot)))
    × (map (λ s. s.inner) l.fn.seats.items ≡ map (λ s. s.inner) l.seats.items ++ popped)
    × (l.seat.me.0.calls ≡ all_calls popped)
    × AllOne popped
    × AllBegin popped l.seat.me.0.seen)

abbrev pub decreases-loop-other : goal.decreases-loop-other
decreases-loop-other g l = goal.left-loop-other g l
