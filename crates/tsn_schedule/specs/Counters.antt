-- What the counters of the object tell after a list of acts.
use Rattle.std.specs.Prelude.{ℕ, ◌+◌, ◌-◌, ◌^◌, min, Bool, false, not, ◌&&◌, nat_lt, if◌then◌else◌, List, [], ◌∷◌, is_some, Option, None}
use Rattle.std.specs.List.{find}
use Rattle.std.specs.Option.{option_map, option_map_or, option_and_then}
use Rattle.tsn_schedule.specs.Acts.{Act, Enable, Disable, Apply, is_enabled}
use Rattle.tsn_schedule.specs.Starts.{starts, is_void, unless_ended, in_force}

-- ConfigChangeTime (802.1Q-2018, 12.29.1): that of the latest start that isn't void, none where a disable comes after it.
abbrev pub change_in : {E : Type 0} → List (Act E) → Option ℕ
change_in acts = option_map (λ start. start.change) (option_and_then unless_ended (find (λ start. not (is_void start)) (starts acts)))

-- What an enable answers: the change time of the start that it makes, none where it makes none.
abbrev pub enabled_change : {E : Type 0} → ℕ → List (Act E) → Option ℕ
enabled_change a acts = if is_enabled acts then None else change_in (Enable a ∷ acts)

-- ConfigPending (802.1Q-2018, 12.29.1): whether that change time is yet to come at t.
abbrev pub is_pending : {E : Type 0} → List (Act E) → ℕ → Bool
is_pending acts t = option_map_or (nat_lt t) (change_in acts) false

-- How many applies found their base past and a list in force.
abbrev pub past_bases : {E : Type 0} → List (Act E) → ℕ
past_bases [] = 0
past_bases (Enable a ∷ acts) = past_bases acts
past_bases (Disable a ∷ acts) = past_bases acts
past_bases (Apply schedule a ∷ acts) =
    past_bases acts + (if nat_lt schedule.base a && is_some (in_force acts a) then 1 else 0)

-- the greatest number that a counter tells
abbrev pub greatest_count : ℕ
greatest_count = 2 ^ 64 - 1

-- ConfigChangeError (802.1Q-2018, 12.29.1), which stays at its greatest number (own).
abbrev pub errors_in : {E : Type 0} → List (Act E) → ℕ
errors_in acts = min (past_bases acts) greatest_count
