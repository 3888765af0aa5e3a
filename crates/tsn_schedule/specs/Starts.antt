-- What is in force after a list of acts.
use Rattle.std.specs.Prelude.{ℕ, Bool, true, false, not, ◌&&◌, nat_lt, nat_le, if◌then◌else◌, List, [], ◌∷◌, ◌++◌, map, Option, Some, None, option_to_list}
use Rattle.std.specs.List.{find, list_any}
use Rattle.std.specs.Option.{option_map, option_and_then}
use Rattle.tsn_types.specs.declared.records.Schedule.{Schedule}
use Rattle.tsn_schedule.specs.Acts.{Act, Enable, Disable, Apply}
use Rattle.tsn_schedule.specs.Times.{change_of}

-- A start: its schedule, its change time, and the acts that come after it, the latest first.
pub record Start (E : Type 0) : Type 0 where
  pub schedule : Schedule E
  pub change : ℕ
  pub later : List (Act E)

-- The start of a schedule by an act at an instant.
abbrev pub start_of : {E : Type 0} → ℕ → Schedule E → Start E
start_of a schedule = record { schedule = schedule; change = change_of schedule.base schedule.cycle a; later = [] }

-- A start with one more act after it.
abbrev pub followed_by : {E : Type 0} → Act E → Start E → Start E
followed_by act start = record { schedule = start.schedule; change = start.change; later = act ∷ start.later }

abbrev pub is_disable : {E : Type 0} → Act E → Bool
is_disable (Enable a) = false
is_disable (Disable a) = true
is_disable (Apply schedule a) = false

-- Whether an act, coming later, makes a start of this change time void: an apply or a disable before that time.
abbrev pub is_voiding : {E : Type 0} → ℕ → Act E → Bool
is_voiding change (Enable a) = false
is_voiding change (Disable a) = nat_lt a change
is_voiding change (Apply schedule a) = nat_lt a change

abbrev pub is_void : {E : Type 0} → Start E → Bool
is_void start = list_any (is_voiding start.change) start.later

-- Whether a disable comes after the start.
abbrev pub is_ended : {E : Type 0} → Start E → Bool
is_ended start = list_any is_disable start.later

-- A start took place by t where it isn't void and its change time isn't after t.
abbrev pub took_place : {E : Type 0} → ℕ → Start E → Bool
took_place t start = not (is_void start) && nat_le start.change t

-- The start that an act makes, if any, given the earlier ones: an apply starts its schedule, an enable that of the
-- latest start that took place by then.
abbrev pub begun : {E : Type 0} → Act E → List (Start E) → Option (Start E)
begun (Enable a) earlier = option_map (λ start. start_of a start.schedule) (find (took_place a) earlier)
begun (Disable a) earlier = None
begun (Apply schedule a) earlier = Some (start_of a schedule)

-- The starts that the acts make, the latest first.
abbrev pub one_more : {E : Type 0} → Act E → List (Start E) → List (Start E)
one_more act earlier = option_to_list (begun act earlier) ++ map (followed_by act) earlier

abbrev pub starts : {E : Type 0} → List (Act E) → List (Start E)
starts [] = []
starts (act ∷ acts) = one_more act (starts acts)

-- A start, unless a disable comes after it.
abbrev pub unless_ended : {E : Type 0} → Start E → Option (Start E)
unless_ended start = if is_ended start then None else Some start

-- In force (own, after 8.6.9): at t, which isn't before the last act, the latest start that took place by t, if no
-- disable comes after it.
abbrev pub in_force : {E : Type 0} → List (Act E) → ℕ → Option (Start E)
in_force acts t = option_and_then unless_ended (find (took_place t) (starts acts))
