-- What runs of what a runner keeps, and what it keeps after an act.
use Rattle.std.specs.Prelude.{ℕ, ◌+◌, ◌-◌, ◌%◌, ◌≤◌, min, true, false, ◌&&◌, nat_le, nat_lt, is_some, if◌then◌else◌, Option, Some, None}
use Rattle.std.specs.Option.{option_map, ForSome}
use Rattle.tsn_types.specs.declared.records.Schedule.{Schedule}
use Rattle.tsn_schedule.specs.Acts.{Act, Enable, Disable, Apply}
use Rattle.tsn_schedule.specs.Counters.{greatest_count}
use Rattle.tsn_schedule.specs.Kept.{Kept}
use Rattle.tsn_schedule.specs.Times.{change_of, greatest_instant, IsChange}
use Rattle.tsn_schedule.specs.declared.runner.Pending.{Pending}

-- The last instant up to t at which a cycle may start, with a change to come, if any.
abbrev pub last_free : ℕ → Option ℕ → ℕ → ℕ
last_free extension None t = t
last_free extension (Some change) t = min t (change - (extension + 1))

-- The latest cycle start up to m on the grid of the one known, if it comes after the last act, else the one known.
abbrev pub start_by : ℕ → ℕ → ℕ → ℕ → ℕ
start_by cycle known last m = if nat_lt last (m - (m - known) % cycle) then m - (m - known) % cycle else known

-- What runs at t of a schedule held, with its latest cycle start.
abbrev pub from_held : {E : Type 0} → Option (Schedule E) → Option ℕ → Option ℕ → ℕ → ℕ → Option (Schedule E × ℕ)
from_held None known change last t = None
from_held (Some schedule) None change last t = None
from_held (Some schedule) (Some known) change last t =
    if nat_le known t then Some (schedule, start_by schedule.cycle known last (last_free schedule.extension change t)) else None

-- What runs at t, with one pending from its change time on.
abbrev pub runs_with : {E : Type 0} → Option (Schedule E) → Option ℕ → Option (Pending E) → ℕ → ℕ → Option (Schedule E × ℕ)
runs_with held known None last t = from_held held known None last t
runs_with held known (Some pending) last t =
    if nat_le pending.change t
    then Some (pending.schedule, t - (t - pending.change) % pending.schedule.cycle)
    else from_held held known (Some pending.change) last t

abbrev pub runs_by : {E : Type 0} → Kept E → ℕ → Option (Schedule E × ℕ)
runs_by kept t = runs_with kept.held kept.running kept.pending kept.last t

-- The schedule of the latest start that took place by t.
abbrev pub held_with : {E : Type 0} → Option (Schedule E) → Option (Pending E) → ℕ → Option (Schedule E)
held_with held None t = held
held_with held (Some pending) t = if nat_le pending.change t then Some pending.schedule else held

abbrev pub held_by : {E : Type 0} → Kept E → ℕ → Option (Schedule E)
held_by kept t = held_with kept.held kept.pending t

abbrev pub change_with : {E : Type 0} → Option ℕ → Option (Pending E) → Option ℕ
change_with known None = known
change_with known (Some pending) = Some pending.change

abbrev pub change_by : {E : Type 0} → Kept E → Option ℕ
change_by kept = change_with kept.running kept.pending

-- What a runner keeps at a, once its pending schedule is taken over where that has come.
abbrev pub settled : {E : Type 0} → Kept E → ℕ → Kept E
settled kept a =
    record {
      enabled = kept.enabled;
      last = a;
      errors = kept.errors;
      held = held_by kept a;
      running = option_map (λ p. p.1) (runs_by kept a);
      pending = None;
    }

-- The change time of a schedule held, if any, that starts again at a.
abbrev pub restart : {E : Type 0} → ℕ → Option (Schedule E) → Option ℕ
restart a held = option_map (λ schedule. change_of schedule.base schedule.cycle a) held

-- The count of errors after an apply at a of a schedule with this base.
abbrev pub counted : {E : Type 0} → Kept E → ℕ → ℕ → ℕ
counted kept base a = if nat_lt base a && is_some (runs_by kept a) then min (kept.errors + 1) greatest_count else kept.errors

-- What a runner keeps after an act with effect.
abbrev pub kept_after : {E : Type 0} → Act E → Kept E → Kept E
kept_after (Enable a) kept = record (settled kept a) { enabled = true; running = restart a (held_by kept a) }
kept_after (Disable a) kept = record (settled kept a) { enabled = false; running = None }
kept_after (Apply schedule a) kept =
    record (settled kept a) {
      errors = counted kept schedule.base a;
      pending = Some (record { schedule = schedule; change = change_of schedule.base schedule.cycle a });
    }

-- the ranges of what a runner keeps
pub record IsInRange {E : Type 0} (instant : ℕ) (start : Option ℕ) (coming : Option (Pending E)) : Type 0 where
  pub last : instant ≤ greatest_instant
  pub running : ForSome start (λ known. IsChange known)
  pub pending : ForSome coming (λ p. IsChange p.change)
