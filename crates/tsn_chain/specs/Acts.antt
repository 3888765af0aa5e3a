-- An act on one port or gate: its runner stands for one act more, and the others stay.
use Rattle.std.specs.Prelude.{◌≡◌, ℕ, ◌<◌, ◌≤◌, List, Option, Some, None, Result, MatchResult, unwrap_or}
use Rattle.std.specs.FinMap.{FinMap, get, insert}
use Rattle.std.specs.Ordering.{nat_cmp}
use Rattle.tsn_types.specs.declared.keys.Key.{Key}
use Rattle.tsn_types.specs.declared.keys.Key.TheVariants.{Port, Filter, Gate, Meter}
use Rattle.tsn_types.specs.declared.records.PortEntry.{PortEntry}
use Rattle.tsn_types.specs.declared.records.GateEntry.{GateEntry}
use Rattle.tsn_types.specs.declared.records.Record.{Record}
use Rattle.tsn_types.specs.declared.records.Record.TheVariants as records
use Rattle.tsn_types.specs.declared.refusals.Refusal.{Refusal}
use Rattle.tsn_types.specs.declared.refusals.Refusal.TheVariants.{Memory}
use Rattle.tsn_schedule.specs.declared.runner.Past.{Past}
use Rattle.tsn_schedule.specs.Acts.{Act, Apply, with_act, is_enabled, last_instant}
use Rattle.tsn_schedule.specs.Kept.{Kept}
use Rattle.tsn_schedule.specs.Refusing.{apply_refusal}
use Rattle.tsn_schedule.specs.Stands.{StandsFor}
use Rattle.tsn_schedule.specs.States.{state_in}
use Rattle.tsn_schedule.specs.Times.{change_of}
use Rattle.tsn_chain.specs.declared.state.State.{State}
use Rattle.tsn_chain.specs.Instances.{Runners}
use Rattle.tsn_chain.specs.State.{port_state, gate_state}

-- in a table of runners, the one of the number stands for one act more, whatever acts it stood for
pub record RowActs {E : Type 0} (old : FinMap nat_cmp (Kept E)) (n : ℕ) (act : Act E) (new : FinMap nat_cmp (Kept E)) : Type 0 where
  pub was : Kept E
  pub is : Kept E
  pub found : get old n ≡ Some was
  pub set : new ≡ insert old n is
  pub stands : (acts : List (Act E)) → StandsFor was acts → StandsFor is (with_act act acts)

-- an act on a key, told for each kind of list
abbrev pub KeyActs : Runners → Key → Act PortEntry → Act GateEntry → Runners → Type 0
KeyActs old (Port n) p g new = RowActs old.ports n p new.ports × (new.gates ≡ old.gates)
KeyActs old (Filter n) p g new = ⊥
KeyActs old (Gate n) p g new = RowActs old.gates n g new.gates × (new.ports ≡ old.ports)
KeyActs old (Meter n) p g new = ⊥

-- what is answered from the runner of a number, for whatever acts it stands
abbrev pub RowAnswers : {E : Type 0} → FinMap nat_cmp (Kept E) → ℕ → (List (Act E) → Type 0) → Type 0
RowAnswers {E = E} m n answer = (was : Kept E) → get m n ≡ Some was → (acts : List (Act E)) → StandsFor was acts → answer acts

-- the same of a key
abbrev pub KeyAnswers : Runners → Key → (List (Act PortEntry) → Type 0) → (List (Act GateEntry) → Type 0) → Type 0
KeyAnswers r (Port n) p g = RowAnswers r.ports n p
KeyAnswers r (Filter n) p g = ⊥
KeyAnswers r (Gate n) p g = RowAnswers r.gates n g
KeyAnswers r (Meter n) p g = ⊥

-- the key's record is one that has a list
abbrev pub HasList : Key → Option Record → Type 0
HasList (Port n) (Some (records.Port r)) = Unit {0}
HasList (Gate n) (Some (records.Gate r)) = Unit {0}
HasList k v = ⊥

-- an apply at an instant takes the schedule of the key's record
abbrev pub KeyApplies : Runners → Key → Option Record → ℕ → Runners → Type 0
KeyApplies old (Port n) (Some (records.Port r)) a new = RowActs old.ports n (Apply r.admin a) new.ports × (new.gates ≡ old.gates)
KeyApplies old (Gate n) (Some (records.Gate r)) a new = RowActs old.gates n (Apply r.admin a) new.gates × (new.ports ≡ old.ports)
KeyApplies old k v a new = ⊥

-- Why an apply of a list is refused, after some acts: 14, then 15; without these causes it is accepted, or refused 18.
abbrev pub IsApplied : {E : Type 0} → List E → Result ℕ Refusal → List (Act E) → Type 0
IsApplied list result acts =
    MatchResult result (λ _. apply_refusal (is_enabled acts) list ≡ None)
    (λ why. why ≡ unwrap_or (apply_refusal (is_enabled acts) list) Memory)

abbrev pub KeyRefuses : Runners → Key → Option Record → Result ℕ Refusal → Type 0
KeyRefuses old (Port n) (Some (records.Port r)) result = RowAnswers old.ports n (IsApplied r.admin.list result)
KeyRefuses old (Gate n) (Some (records.Gate r)) result = RowAnswers old.gates n (IsApplied r.admin.list result)
KeyRefuses old k v result = ⊥

-- its change time
abbrev pub ChangesAt : Option Record → ℕ → ℕ → Type 0
ChangesAt (Some (records.Port r)) a change = change ≡ change_of r.admin.base r.admin.cycle a
ChangesAt (Some (records.Gate r)) a change = change ≡ change_of r.admin.base r.admin.cycle a
ChangesAt v a change = ⊥

-- The state at an instant, after some acts; or the instant comes before the last of them.
abbrev pub StateAt : {E : Type 0} → (E → ℕ) → (Option E → State) → ℕ → Result State Past → List (Act E) → Type 0
StateAt interval shown t result acts =
    MatchResult result (λ s. (last_instant acts ≤ t) × (s ≡ shown (state_in interval acts t))) (λ _. t < last_instant acts)

abbrev pub KeyStates : Runners → Key → Option Record → ℕ → Result State Past → Type 0
KeyStates r (Port n) (Some (records.Port p)) t result = RowAnswers r.ports n (StateAt (λ e. e.interval) (port_state p) t result)
KeyStates r (Gate n) (Some (records.Gate g)) t result = RowAnswers r.gates n (StateAt (λ e. e.interval) (gate_state g) t result)
KeyStates r k v t result = ⊥
