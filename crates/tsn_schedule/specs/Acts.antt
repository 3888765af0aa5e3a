-- The acts of one object, a port or a stream gate. A list of acts has the latest act first.
use Rattle.std.specs.Prelude.{◌≡◌, ◌≢◌, ℕ, ◌<◌, ◌≤◌, Bool, true, false, if◌then◌else◌, List, [], ◌∷◌}
use Rattle.tsn_types.specs.declared.records.Schedule.{Schedule}

-- An act with its instant: GateEnabled becomes true, or false, or ConfigChange is set with the admin values then
-- (802.1Q-2018, 12.29.1).
pub data Act (E : Type 0) : Type 0 where
  Enable : ℕ → Act E
  Disable : ℕ → Act E
  Apply : Schedule E → ℕ → Act E

abbrev pub instant_of : {E : Type 0} → Act E → ℕ
instant_of (Enable a) = a
instant_of (Disable a) = a
instant_of (Apply schedule a) = a

-- The instant of the last act, 0 without one.
abbrev pub last_instant : {E : Type 0} → List (Act E) → ℕ
last_instant [] = 0
last_instant (act ∷ acts) = instant_of act

-- Whether the acts leave the object enabled: at first it is not.
abbrev pub is_enabled : {E : Type 0} → List (Act E) → Bool
is_enabled [] = false
is_enabled (Enable a ∷ acts) = true
is_enabled (Disable a ∷ acts) = false
is_enabled (Apply schedule a ∷ acts) = is_enabled acts

-- The acts with one more: an enable of an enabled object and a disable of a disabled one have no effect, and are none.
abbrev pub with_act : {E : Type 0} → Act E → List (Act E) → List (Act E)
with_act (Enable a) acts = if is_enabled acts then acts else Enable a ∷ acts
with_act (Disable a) acts = if is_enabled acts then Disable a ∷ acts else acts
with_act (Apply schedule a) acts = Apply schedule a ∷ acts

-- An act has effect after these: an enable finds the object disabled, a disable enabled; an apply finds it enabled and
-- has a list, whose cycle has a length.
abbrev pub HasEffect : {E : Type 0} → Act E → List (Act E) → Type 0
HasEffect (Enable a) acts = is_enabled acts ≡ false
HasEffect (Disable a) acts = is_enabled acts ≡ true
HasEffect (Apply schedule a) acts = (is_enabled acts ≡ true) × (schedule.list ≢ []) × (0 < schedule.cycle)

-- Acts in order of time, each with effect.
abbrev pub IsHistory : {E : Type 0} → List (Act E) → Type 0
IsHistory [] = Unit {0}
IsHistory (act ∷ acts) = (last_instant acts ≤ instant_of act) × HasEffect act acts × IsHistory acts
