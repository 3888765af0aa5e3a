-- The cycles of the list in force, and the state at an instant.
use Rattle.std.specs.Prelude.{ℕ, zero, suc, ◌+◌, ◌-◌, ◌*◌, ◌/◌, Bool, false, ◌&&◌, nat_lt, nat_le, if◌then◌else◌, List, Option}
use Rattle.std.specs.List.{find}
use Rattle.std.specs.Option.{option_map, option_map_or, option_and_then}
use Rattle.tsn_types.specs.declared.records.Schedule.{Schedule}
use Rattle.tsn_schedule.specs.Acts.{Act, Enable, Disable, Apply}
use Rattle.tsn_schedule.specs.Entries.{entry_at, earlier_at}
use Rattle.tsn_schedule.specs.Starts.{Start, in_force, took_place, starts}
use Rattle.tsn_schedule.specs.Times.{change_of}

abbrev pub is_apply_before : {E : Type 0} → ℕ → Act E → Bool
is_apply_before n (Enable a) = false
is_apply_before n (Disable a) = false
is_apply_before n (Apply schedule a) = nat_lt a n

-- Whether an act's change comes after n, and no later than n with the extension.
abbrev pub is_change_near : {E : Type 0} → ℕ → ℕ → Act E → Bool
is_change_near n extension (Enable a) = false
is_change_near n extension (Disable a) = false
is_change_near n extension (Apply schedule a) =
    nat_lt n (change_of schedule.base schedule.cycle a) && nat_le (change_of schedule.base schedule.cycle a) (n + extension)

-- A cycle start n does not take place where the latest apply before n, coming after the start, has its change within
-- the extension after n (802.1Q-2018, 8.6.9, SetCycleStartTime, after its manner). An act at n itself decides nothing about n (own).
abbrev pub is_held_back : {E : Type 0} → Start E → ℕ → Bool
is_held_back start n =
    option_map_or (is_change_near n start.schedule.extension) (find (is_apply_before n) start.later) false

-- The cycle start with number k, if it takes place: k cycles after the change time.
abbrev pub nominal : {E : Type 0} → Start E → ℕ → ℕ
nominal start k = start.change + k * start.schedule.cycle

-- The latest of the cycle starts up to number k that took place. The first one always did.
abbrev pub latest_of : {E : Type 0} → Start E → ℕ → ℕ
latest_of start zero = start.change
latest_of start (suc k) =
    if is_held_back start (nominal start (suc k)) then latest_of start k else nominal start (suc k)

-- The latest cycle start that took place by t, of a start in force at t.
abbrev pub cycle_start : {E : Type 0} → Start E → ℕ → ℕ
cycle_start start t = latest_of start ((t - start.change) / start.schedule.cycle)

abbrev pub entry_of : {E : Type 0} → (E → ℕ) → ℕ → Start E → Option E
entry_of interval t start = entry_at interval start.schedule.list (t - cycle_start start t)

-- The state at t: the entry at the offset from that cycle start; none where nothing is in force, and the admin values stand.
abbrev pub state_in : {E : Type 0} → (E → ℕ) → List (Act E) → ℕ → Option E
state_in interval acts t = option_and_then (entry_of interval t) (in_force acts t)

abbrev pub began_of : {E : Type 0} → (E → ℕ) → ℕ → Start E → ℕ
began_of interval t start = cycle_start start t + earlier_at interval start.schedule.list (t - cycle_start start t)

-- The instant at which the interval of the state at t began: that cycle start with the intervals before the entry.
abbrev pub began_in : {E : Type 0} → (E → ℕ) → List (Act E) → ℕ → Option ℕ
began_in interval acts t = option_map (began_of interval t) (in_force acts t)

-- The schedule of the latest start that took place by t, also while disabled.
abbrev pub held_in : {E : Type 0} → List (Act E) → ℕ → Option (Schedule E)
held_in acts t = option_map (λ start. start.schedule) (find (took_place t) (starts acts))

abbrev pub run_of : {E : Type 0} → ℕ → Start E → Schedule E × ℕ
run_of t start = (start.schedule, cycle_start start t)

-- The schedule in force at t and its latest cycle start that took place by t.
abbrev pub runs_in : {E : Type 0} → List (Act E) → ℕ → Option (Schedule E × ℕ)
runs_in acts t = option_map (run_of t) (in_force acts t)
