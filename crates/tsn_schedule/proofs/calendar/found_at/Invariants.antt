use Rattle.std.proofs.Common.{length, ◌≡◌, ◌+◌, ◌-◌, ◌≤◌}
use Rattle.tsn_schedule.specs.Entries.{entry_at, earlier_at}
use Rattle.tsn_schedule.proofs.calendar.found_at.Given as goal

abbrev pub invariant-loop-first : goal.invariant-loop-first
invariant-loop-first g l = (l.left ≤ l.fn.offset)
    × (entry_at g.E.Timed.interval l.rest l.left ≡ entry_at g.E.Timed.interval l.fn.list l.fn.offset)
    × (l.fn.offset - l.left + earlier_at g.E.Timed.interval l.rest l.left ≡ earlier_at g.E.Timed.interval l.fn.list l.fn.offset)
    × (length l.rest ≤ 0 → l.left ≡ l.fn.offset)

abbrev pub decreases-loop-first : goal.decreases-loop-first
decreases-loop-first g l = length l.rest
