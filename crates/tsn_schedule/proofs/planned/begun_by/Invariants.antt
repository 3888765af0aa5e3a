use Rattle.std.proofs.Common.{ℕ, ◌-◌, ◌<◌, ◌≤◌, length, get_or}
use Rattle.tsn_schedule.proofs.planned.begun_by.Given as goal

-- the entries below `low` begin by the offset, and those from `high` on later
abbrev pub invariant-loop-low : goal.invariant-loop-low
invariant-loop-low l = record {
  in_order : l.low ≤ l.high;
  within : l.high ≤ length l.begins;
  begun : (k : ℕ) → k < l.low → get_or l.begins k 0 ≤ l.fn.offset;
  later : (k : ℕ) → l.high ≤ k → k < length l.begins → l.fn.offset < get_or l.begins k 0;
}

abbrev pub decreases-loop-low : goal.decreases-loop-low
decreases-loop-low l = l.high - l.low
