use Rattle.std.proofs.Common.{◌≡◌, ℕ, ◌<◌, length, get_or, take}
use Rattle.std.specs.List.{sum_by}
use Rattle.tsn_schedule.proofs.planned.begins_of.Given as goal

-- the entries so far begin where the sums say, and the next one at the last sum
abbrev pub invariant-loop-entry : goal.invariant-loop-entry
invariant-loop-entry g l = record {
  as_many : length l.begins.items ≡ l.entry-index;
  each : (k : ℕ) → k < l.entry-index → get_or l.begins.items k 0 ≡ sum_by g.E.Timed.interval (take k l.entries);
  so_far : l.sum ≡ sum_by g.E.Timed.interval (take l.entry-index l.entries);
}
