-- The acts of each port and each gate since it was created, for which its runner stands.
use Rattle.std.specs.Prelude.{◌≡◌, ℕ, if◌then◌else◌, fold, List, [], Option, Some, None}
use Rattle.std.specs.FinMap.{FinMap, get}
use Rattle.std.specs.Ordering.{nat_cmp, eq_by_cmp}
use Rattle.tsn_types.specs.declared.keys.Key.{Key}
use Rattle.tsn_types.specs.declared.keys.Key.TheVariants.{Port, Filter, Gate, Meter}
use Rattle.tsn_types.specs.declared.records.PortEntry.{PortEntry}
use Rattle.tsn_types.specs.declared.records.GateEntry.{GateEntry}
use Rattle.tsn_types.specs.declared.records.Record.{Record}
use Rattle.tsn_types.specs.declared.records.Record.TheVariants as records
use Rattle.tsn_edit.specs.Parts.{Change, Part, parts}
use Rattle.tsn_schedule.specs.Acts.{Act, Apply, with_act}
use Rattle.tsn_schedule.specs.Kept.{Kept}
use Rattle.tsn_schedule.specs.Stands.{StandsFor}
use Rattle.tsn_chain.specs.Frames.{GateActs, StandFor}
use Rattle.tsn_chain.specs.Instances.{Runners}

-- the acts of each port and of each gate, by number
pub record Histories : Type 0 where
  pub ports : ℕ → List (Act PortEntry)
  pub gates : GateActs

-- each runner of a table stands for the acts of its number
abbrev pub StandIn : {E : Type 0} → FinMap nat_cmp (Kept E) → (ℕ → List (Act E)) → Type 0
StandIn {E = E} t acts = (n : ℕ) (k : Kept E) → get t n ≡ Some k → StandsFor k (acts n)

-- each runner stands for its acts
pub record Stand (r : Runners) (h : Histories) : Type 0 where
  pub ports : StandIn r.ports h.ports
  pub gates : StandFor r.gates h.gates

-- the acts of one number are others
abbrev pub with_acts : {E : Type 0} → ℕ → List (Act E) → (ℕ → List (Act E)) → ℕ → List (Act E)
with_acts n own acts m = if eq_by_cmp nat_cmp m n then own else acts m

-- what is created has no acts
abbrev pub since : {E : Type 0} → Option Record → Option Record → ℕ → (ℕ → List (Act E)) → ℕ → List (Act E)
since before None n acts = acts
since None (Some r) n acts = with_acts n [] acts
since (Some q) (Some r) n acts = acts

abbrev pub histories_at : Histories → Key → Option Record → Option Record → Histories
histories_at h (Port n) before after = record h { ports = since before after n h.ports }
histories_at h (Filter n) before after = h
histories_at h (Gate n) before after = record h { gates = since before after n h.gates }
histories_at h (Meter n) before after = h

-- after a change, part by part
abbrev pub histories_after : Histories → Change → Histories
histories_after h e = fold (λ d (p : Part). histories_at d p.key p.before p.after) h (parts e)

-- after an act on a key, told for each kind of list
abbrev pub histories_with : Histories → Key → Act PortEntry → Act GateEntry → Histories
histories_with h (Port n) p g = record h { ports = with_acts n (with_act p (h.ports n)) h.ports }
histories_with h (Filter n) p g = h
histories_with h (Gate n) p g = record h { gates = with_acts n (with_act g (h.gates n)) h.gates }
histories_with h (Meter n) p g = h

-- after an apply at an instant, which takes the schedule of the key's record
abbrev pub histories_applied : Histories → Key → Option Record → ℕ → Histories
histories_applied h (Port n) (Some (records.Port r)) a = record h { ports = with_acts n (with_act (Apply r.admin a) (h.ports n)) h.ports }
histories_applied h (Gate n) (Some (records.Gate r)) a = record h { gates = with_acts n (with_act (Apply r.admin a) (h.gates n)) h.gates }
histories_applied h k v a = h
