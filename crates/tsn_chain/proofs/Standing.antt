-- Runners stand for the acts since their instance was created.
use Rattle.std.proofs.Common.{◌≡◌, ℕ, cond, sym, subst, List, [], ◌∷◌, Option, Some, None}
use Rattle.std.specs.FinMap.{FinMap, insert, empty}
use Rattle.std.specs.Ordering.{nat_cmp}
use Rattle.tsn_types.specs.declared.keys.Key.{Key}
use Rattle.tsn_types.specs.declared.keys.Key.TheVariants.{Port, Filter, Gate, Meter}
use Rattle.tsn_types.specs.declared.records.GateEntry.{GateEntry}
use Rattle.tsn_types.specs.declared.records.PortEntry.{PortEntry}
use Rattle.tsn_types.specs.declared.records.Record.{Record}
use Rattle.tsn_types.specs.declared.records.Record.TheVariants as records
use Rattle.tsn_edit.specs.Parts.{Change}
use Rattle.tsn_schedule.specs.Acts.{Act, Apply, with_act}
use Rattle.tsn_schedule.specs.Kept.{Kept, fresh}
use Rattle.tsn_schedule.specs.Stands.{StandsFor}
use Rattle.tsn_schedule.proofs.Keeps.{fresh_stands}
use Rattle.tsn_chain.specs.Acts.{KeyActs, KeyApplies, RowActs}
use Rattle.tsn_chain.specs.Following.{row_after, runners_after, runners_at}
use Rattle.tsn_chain.specs.Instances.{Runners}
use Rattle.tsn_chain.proofs.Each.{each_empty, each_insert, each_remove}
use Rattle.tsn_chain.specs.Standing.{Histories, Stand, StandIn, histories_after, histories_applied, histories_at, histories_with, since, with_acts}

stand_empty : {E : Type 0} (acts : ℕ → List (Act E)) → StandIn {E = E} empty acts
stand_empty acts = each_empty (λ n kept. StandsFor kept (acts n))

stand_insert : {E : Type 0} (n : ℕ) (t : FinMap nat_cmp (Kept E)) (k : Kept E) (acts : ℕ → List (Act E)) (own : List (Act E))
    → StandIn t acts
    → StandsFor k own → StandIn (insert t n k) (with_acts n own acts)
stand_insert n t k acts own h stands =
    each_insert (λ m kept. StandsFor kept (acts m)) (λ m kept. StandsFor kept (with_acts n own acts m)) n t k h
    (λ m yes. subst (λ b. StandsFor k (cond b own (acts m))) (sym yes) stands)
    (λ m kept no held. subst (λ b. StandsFor kept (cond b own (acts m))) (sym no) held)

stand_row : {E : Type 0} (n : ℕ) (before after : Option Record) (t : FinMap nat_cmp (Kept E)) (acts : ℕ → List (Act E)) → StandIn t acts
    → StandIn (row_after fresh before after t n) (since before after n acts)
stand_row n before None t acts h = each_remove (λ m kept. StandsFor kept (acts m)) n t h
stand_row n None (Some r) t acts h = stand_insert n t fresh acts [] h fresh_stands
stand_row n (Some q) (Some r) t acts h = h

stand_acts : {E : Type 0} (old new : FinMap nat_cmp (Kept E)) (n : ℕ) (act : Act E) (acts : ℕ → List (Act E)) → StandIn old acts
    → RowActs old n act new → StandIn new (with_acts n (with_act act (acts n)) acts)
stand_acts {E = E} old new n act acts h r =
    subst (λ (t : FinMap nat_cmp (Kept E)). StandIn t (with_acts n (with_act act (acts n)) acts)) (sym r.set)
    (stand_insert n old r.is acts (with_act act (acts n)) h (r.stands (acts n) (h n r.was r.found)))

-- a table that is as it was
same_table : {E : Type 0} (old new : FinMap nat_cmp (Kept E)) (acts : ℕ → List (Act E)) → new ≡ old → StandIn old acts → StandIn new acts
same_table {E = E} old new acts is h = subst (λ (t : FinMap nat_cmp (Kept E)). StandIn t acts) (sym is) h

-- at first there is no runner
pub stand_begin : Stand (record { ports = empty; gates = empty }) (record { ports = λ n. []; gates = λ n. [] })
stand_begin = record { ports = stand_empty (λ n. []); gates = stand_empty (λ n. []) }

stand_at : (r : Runners) (h : Histories) (key : Key) (before after : Option Record) → Stand r h
    → Stand (runners_at r key before after) (histories_at h key before after)
stand_at r h (Port n) before after s = record { ports = stand_row n before after r.ports h.ports s.ports; gates = s.gates }
stand_at r h (Filter n) before after s = s
stand_at r h (Gate n) before after s = record { ports = s.ports; gates = stand_row n before after r.gates h.gates s.gates }
stand_at r h (Meter n) before after s = s

-- after a change
pub stand_follow : (r : Runners) (h : Histories) (e : Change) → Stand r h → Stand (runners_after r e) (histories_after h e)
stand_follow r h [] s = s
stand_follow r h (p ∷ ps) s =
    stand_follow (runners_at r p.key p.before p.after) (histories_at h p.key p.before p.after) ps (stand_at r h p.key p.before p.after s)

-- after an act
pub stand_act : (old new : Runners) (h : Histories) (key : Key) (p : Act PortEntry) (g : Act GateEntry) → Stand old h
    → KeyActs old key p g new → Stand new (histories_with h key p g)
stand_act old new h (Port n) p g s acts =
    record {
      ports = stand_acts old.ports new.ports n p h.ports s.ports acts.0;
      gates = same_table old.gates new.gates h.gates acts.1 s.gates;
    }
stand_act old new h (Filter n) p g s acts = absurd acts
stand_act old new h (Gate n) p g s acts =
    record {
      ports = same_table old.ports new.ports h.ports acts.1 s.ports;
      gates = stand_acts old.gates new.gates n g h.gates s.gates acts.0;
    }
stand_act old new h (Meter n) p g s acts = absurd acts

-- after an apply
pub stand_apply : (old new : Runners) (h : Histories) (key : Key) (v : Option Record) (a : ℕ) → Stand old h → KeyApplies old key v a new
    → Stand new (histories_applied h key v a)
stand_apply old new h (Port n) (Some (records.Port r)) a s acts =
    record {
      ports = stand_acts old.ports new.ports n (Apply r.admin a) h.ports s.ports acts.0;
      gates = same_table old.gates new.gates h.gates acts.1 s.gates;
    }
stand_apply old new h (Gate n) (Some (records.Gate r)) a s acts =
    record {
      ports = same_table old.ports new.ports h.ports acts.1 s.ports;
      gates = stand_acts old.gates new.gates n (Apply r.admin a) h.gates s.gates acts.0;
    }
stand_apply old new h k v a s acts = absurd acts
