-- Instance data keeps the keys of a configuration as both follow a change.
use Rattle.std.proofs.Common.{◌≡◌, ℕ, Bool, true, cond, List, [], ◌∷◌, map, refl, sym, ◌∙◌, ap, subst, Option, Some, None, arith, rules}
use Rattle.std.specs.Prelude.{IsSome, is_some}
use Rattle.std.specs.Cmp.{nat_cmp_total}
use Rattle.std.specs.List.{IsDistinct}
use Rattle.std.specs.FinMap.{FinMap, get, empty, insert, get-empty, get-insert, get-remove}
use Rattle.std.specs.Ordering.{nat_cmp, eq_by_cmp}
use Rattle.tsn_types.specs.declared.keys.Key.{Key}
use Rattle.tsn_types.specs.declared.keys.Key.TheVariants.{Port, Filter, Gate, Meter}
use Rattle.tsn_types.specs.declared.limits.Limits.{Limits}
use Rattle.tsn_types.specs.declared.records.GateEntry.{GateEntry}
use Rattle.tsn_types.specs.declared.records.PortEntry.{PortEntry}
use Rattle.tsn_types.specs.declared.records.StreamFilter.{StreamFilter}
use Rattle.tsn_types.specs.declared.records.Record.{Record}
use Rattle.tsn_types.specs.declared.records.Record.TheVariants as records
use Rattle.tsn_types.specs.Keys.{key_cmp, same_key}
use Rattle.tsn_types.specs.Limits.{HoldsRecord}
use Rattle.tsn_config.specs.Kinds.{meter_of}
use Rattle.tsn_edit.specs.Changes.{Fits, Stands, after_change, keys_of}
use Rattle.tsn_edit.specs.Configuration.{Configuration, IsWellKept, put}
use Rattle.tsn_edit.specs.Parts.{Change, Part, inverse_part, parts}
use Rattle.tsn_edit.proofs.FirstPart.{put_first, stands_next}
use Rattle.tsn_edit.proofs.Inverses.{inverse_part_stands}
use Rattle.tsn_edit.proofs.KeyFacts.{get-put, one_key}
use Rattle.tsn_schedule.specs.Acts.{Act, Apply}
use Rattle.tsn_schedule.specs.Kept.{Kept}
use Rattle.tsn_chain.specs.declared.data.Met.{Met}
use Rattle.tsn_chain.specs.declared.data.Metered.{Metered}
use Rattle.tsn_chain.specs.declared.data.MeterData.{MeterData}
use Rattle.tsn_chain.specs.Acts.{KeyActs, KeyApplies, RowActs}
use Rattle.tsn_chain.specs.Following.{AreOfKind, IsOfKind, clipped_meter, frames_after, frames_at, meter_row_after, new_meter, row_after, runners_after, runners_at, with_row}
use Rattle.tsn_chain.specs.Frames.{with_met, with_meter}
use Rattle.tsn_chain.specs.Instances.{FrameData, Runners, HasFrameKeys, HasKeys, SameKeys}
use Rattle.tsn_chain.specs.Rows.{HasMeter}
use Rattle.tsn_chain.proofs.Swapped.{one_number}

-- a row that is dropped, that is new or that stays, beside a value that goes, comes or is replaced
gone : {A B : Type 0} (b : Bool) (x : Option A) (y : Option B) → is_some x ≡ is_some y → is_some (cond b None x) ≡ is_some (cond b None y)
gone b x y h = grind arith

come : {A B : Type 0} (b : Bool) (x : Option A) (y : Option B) (u : A) (v : B) → is_some x ≡ is_some y
    → is_some (cond b (Some u) x) ≡ is_some (cond b (Some v) y)
come b x y u v h = grind arith

stays : {A B : Type 0} (b : Bool) (x : Option A) (y : Option B) (q v : B) → is_some x ≡ is_some y → (b ≡ true → y ≡ Some q)
    → is_some x ≡ is_some (cond b (Some v) y)
stays b x y q v h same = grind arith

-- a row of a table is there where the value of its key is, after a change of the key of number m
row_there : {A : Type 0} (new : A) (t : FinMap nat_cmp A) (m n : ℕ) (before after g : Option Record) → is_some (get t n) ≡ is_some g
    → (eq_by_cmp nat_cmp n m ≡ true → g ≡ before)
    → is_some (get (row_after new before after t m) n) ≡ is_some (cond (eq_by_cmp nat_cmp n m) after g)
row_there new t m n None None g h same = ap is_some (get-remove nat_cmp_total t m n) ∙ gone (eq_by_cmp nat_cmp n m) (get t n) g h
row_there new t m n (Some q) None g h same = ap is_some (get-remove nat_cmp_total t m n) ∙ gone (eq_by_cmp nat_cmp n m) (get t n) g h
row_there new t m n None (Some r) g h same =
    ap is_some (get-insert nat_cmp_total t m new n) ∙ come (eq_by_cmp nat_cmp n m) (get t n) g new r h
row_there new t m n (Some q) (Some r) g h same = stays (eq_by_cmp nat_cmp n m) (get t n) g q r h same

with_there : {A : Type 0} (f : A → A) (o : Option A) (t : FinMap nat_cmp A) (m n : ℕ) (q r : Record) (g : Option Record)
    → is_some (get t n) ≡ is_some g → (eq_by_cmp nat_cmp n m ≡ true → g ≡ Some q)
    → is_some (get (with_row f o t m) n) ≡ is_some (cond (eq_by_cmp nat_cmp n m) (Some r) g)
with_there f None t m n q r g h same = stays (eq_by_cmp nat_cmp n m) (get t n) g q r h same
with_there f (Some d) t m n q r g h same =
    ap is_some (get-insert nat_cmp_total t m (f d) n) ∙ come (eq_by_cmp nat_cmp n m) (get t n) g (f d) r h

meter_row_there : (now : ℕ) (t : FinMap nat_cmp MeterData) (m n : ℕ) (before after g : Option Record) → IsOfKind (Meter m) after
    → is_some (get t n) ≡ is_some g → (eq_by_cmp nat_cmp n m ≡ true → g ≡ before)
    → is_some (get (meter_row_after now before (meter_of after) t m) n) ≡ is_some (cond (eq_by_cmp nat_cmp n m) after g)
meter_row_there now t m n before None g kind h same =
    ap is_some (get-remove nat_cmp_total t m n) ∙ gone (eq_by_cmp nat_cmp n m) (get t n) g h
meter_row_there now t m n None (Some (records.Meter r)) g kind h same = ap is_some (get-insert nat_cmp_total t m (new_meter now r) n)
    ∙ come (eq_by_cmp nat_cmp n m) (get t n) g (new_meter now r) (records.Meter r) h
meter_row_there now t m n (Some q) (Some (records.Meter r)) g kind h same =
    with_there (clipped_meter r) (get t m) t m n q (records.Meter r) g h same
meter_row_there now t m n before (Some (records.Port r)) g kind h same = (cc)
meter_row_there now t m n before (Some (records.Filter r)) g kind h same = (cc)
meter_row_there now t m n before (Some (records.Gate r)) g kind h same = (cc)

-- the same in each table, after a change of any key
module _ (before after : Option Record) (n : ℕ) (g : Option Record) where
  port_there : (key : Key) (r : Runners) → is_some (get r.ports n) ≡ is_some g → (same_key (Port n) key ≡ true → g ≡ before)
      → is_some (get (runners_at r key before after).ports n) ≡ is_some (cond (same_key (Port n) key) after g)
  port_there key r h same = grind (arith, row_there)

  runner_there : (key : Key) (r : Runners) → is_some (get r.gates n) ≡ is_some g → (same_key (Gate n) key ≡ true → g ≡ before)
      → is_some (get (runners_at r key before after).gates n) ≡ is_some (cond (same_key (Gate n) key) after g)
  runner_there key r h same = grind (arith, row_there)

  filter_there : (key : Key) (now : ℕ) (f : FrameData) → is_some (get f.filters n) ≡ is_some g
      → (same_key (Filter n) key ≡ true → g ≡ before)
      → is_some (get (frames_at now f key before after).filters n) ≡ is_some (cond (same_key (Filter n) key) after g)
  filter_there key now f h same = grind (arith, row_there)

  gate_there : (key : Key) (now : ℕ) (f : FrameData) → is_some (get f.gates n) ≡ is_some g → (same_key (Gate n) key ≡ true → g ≡ before)
      → is_some (get (frames_at now f key before after).gates n) ≡ is_some (cond (same_key (Gate n) key) after g)
  gate_there key now f h same = grind (arith, row_there)

  meter_there : (key : Key) (now : ℕ) (f : FrameData) → IsOfKind key after → is_some (get f.meters n) ≡ is_some g
      → (same_key (Meter n) key ≡ true → g ≡ before)
      → is_some (get (frames_at now f key before after).meters n) ≡ is_some (cond (same_key (Meter n) key) after g)
  meter_there key now f kind h same = grind (arith, meter_row_there)

-- a key is created, replaced or removed in both
keys_part : (c : Configuration) (r : Runners) (f : FrameData) (now : ℕ) (e : Part) → HasKeys r f c → get c e.key ≡ e.before
    → IsOfKind e.key e.after
    → HasKeys (runners_at r e.key e.before e.after) (frames_at now f e.key e.before e.after) (put c e.key e.after)
keys_part c r f now e h stands kind = grind (arith, one_key, get-put, port_there, runner_there, filter_there, gate_there, meter_there)

-- and so part by part
pub keys_follow : (c : Configuration) (r : Runners) (f : FrameData) (now : ℕ) (e : Change) → HasKeys r f c
    → IsDistinct same_key (keys_of (parts e)) → Stands c (parts e) → AreOfKind (parts e)
    → HasKeys (runners_after r e) (frames_after now f e) (after_change c e)
unfolding IsDistinct
keys_follow c r f now [] h distinct stands kinds = h
keys_follow c r f now (p ∷ ps) h distinct stands kinds =
    let one = keys_part c r f now p h stands.0 kinds.0 in
    let rest = keys_follow (put c p.key p.after) (runners_at r p.key p.before p.after) (frames_at now f p.key p.before p.after) now ps one
    distinct.1 (stands_next c p ps distinct stands.1) kinds.1 in
    subst (λ (d : Configuration). HasKeys (runners_after r (p ∷ ps)) (frames_after now f (p ∷ ps)) d) (put_first c p ps distinct) rest

of_kind : (l : Limits) (k : Key) (v : Option Record) → ((r : Record) → v ≡ Some r → HoldsRecord l k r) → IsOfKind k v
of_kind l k None held = tt
of_kind l (Port n) (Some (records.Port r)) held = refl
of_kind l (Filter n) (Some (records.Filter r)) held = refl
of_kind l (Gate n) (Some (records.Gate r)) held = refl
of_kind l (Meter n) (Some (records.Meter r)) held = refl
of_kind l k (Some r) held = absurd (held r refl)

-- what stands in a well kept map is of its key's kind
kinds_kept : (l : Limits) (c : Configuration) → IsWellKept l c → (ps : List Part) → Stands c (map inverse_part ps) → AreOfKind ps
kinds_kept l c kept [] stands = tt
kinds_kept l c kept (p ∷ ps) stands =
    (of_kind l p.key p.after (λ v some. (kept.within p.key v (stands.0 ∙ some)).1), kinds_kept l c kept ps stands.1)

-- a change that fits
pub keys_fit : (l : Limits) (c : Configuration) (r : Runners) (f : FrameData) (now : ℕ) (e : Change) → HasKeys r f c → Fits l c e
    → HasKeys (runners_after r e) (frames_after now f e) (after_change c e)
keys_fit l c r f now e h fits = search (rules, keys_follow, kinds_kept, inverse_part_stands)

nothing_there : (A : Type 0) (n : ℕ) (k : Key) → is_some (get {X = A} (empty {R = nat_cmp}) n)
    ≡ is_some (get {X = Record} (empty {R = key_cmp}) k)
nothing_there A n k = ap is_some (get-empty {X = A} nat_cmp n) ∙ sym (ap is_some (get-empty {X = Record} key_cmp k))

pub keys_begin : HasKeys (record { ports = empty; gates = empty }) (record { filters = empty; gates = empty; meters = empty }) empty
keys_begin = grind (arith, nothing_there)

overwritten : {A : Type 0} (b : Bool) (x : A) (o : Option A) → (b ≡ true → is_some o ≡ true) → is_some (cond b (Some x) o) ≡ is_some o
overwritten b x o there = grind arith

-- a row that is there is written over
pub same_keys : {A : Type 0} (t : FinMap nat_cmp A) (n : ℕ) (x : A) (key : ℕ → Key) (c : Configuration) → IsSome (get t n)
    → SameKeys t key c → SameKeys (insert t n x) key c
same_keys t n x key c there same m =
    ap is_some (get-insert nat_cmp_total t n x m)
    ∙ overwritten (eq_by_cmp nat_cmp m n) x (get t m) (λ is. ap (λ k. is_some (get t k)) (one_number m n is) ∙ there)
    ∙ same m

meter_keys : (t : FinMap nat_cmp MeterData) (o : Option ℕ) (q : Option Metered) (c : Configuration)
    → ((n : ℕ) → o ≡ Some n → IsSome (get t n)) → SameKeys t (λ n. Meter n) c → SameKeys (with_meter t o q) (λ n. Meter n) c
meter_keys t None q c there same = same
meter_keys t (Some n) None c there same = same
meter_keys t (Some n) (Some q) c there same = same_keys t n q.kept (λ m. Meter m) c (there n refl) same

-- what a frame meets is put back where it was
pub met_keys : (f : FrameData) (n : ℕ) (q : StreamFilter) (k : Met) (c : Configuration) → IsSome (get f.filters n)
    → IsSome (get f.gates q.gate) → HasMeter f q → HasFrameKeys f c → HasFrameKeys (with_met f n q k) c
met_keys f n q k c filter gate meter h = search (rules, same_keys, meter_keys)

row_keys : {E : Type 0} (old new : FinMap nat_cmp (Kept E)) (n : ℕ) (act : Act E) (key : ℕ → Key) (c : Configuration)
    → RowActs old n act new → SameKeys old key c → SameKeys new key c
row_keys {E = E} old new n act key c acts same = grind (arith, same_keys)

gates_same : (old new : FinMap nat_cmp (Kept GateEntry)) (c : Configuration) → new ≡ old → SameKeys old (λ n. Gate n) c
    → SameKeys new (λ n. Gate n) c
gates_same old new c is same = subst (λ (t : FinMap nat_cmp (Kept GateEntry)). SameKeys t (λ n. Gate n) c) (sym is) same

ports_same : (old new : FinMap nat_cmp (Kept PortEntry)) (c : Configuration) → new ≡ old → SameKeys old (λ n. Port n) c
    → SameKeys new (λ n. Port n) c
ports_same old new c is same = subst (λ (t : FinMap nat_cmp (Kept PortEntry)). SameKeys t (λ n. Port n) c) (sym is) same

-- acts leave the keys
pub keys_act : (old new : Runners) (f : FrameData) (c : Configuration) (key : Key) (p : Act PortEntry) (g : Act GateEntry) → HasKeys old f c
    → KeyActs old key p g new → HasKeys new f c
keys_act old new f c (Port n) p g h acts =
    record {
      ports = row_keys old.ports new.ports n p (λ m. Port m) c acts.0 h.ports;
      gates = gates_same old.gates new.gates c acts.1 h.gates;
      frames = h.frames;
    }
keys_act old new f c (Filter n) p g h acts = absurd acts
keys_act old new f c (Gate n) p g h acts =
    record {
      ports = ports_same old.ports new.ports c acts.1 h.ports;
      gates = row_keys old.gates new.gates n g (λ m. Gate m) c acts.0 h.gates;
      frames = h.frames;
    }
keys_act old new f c (Meter n) p g h acts = absurd acts

pub keys_apply : (old new : Runners) (f : FrameData) (c : Configuration) (key : Key) (v : Option Record) (a : ℕ) → HasKeys old f c
    → KeyApplies old key v a new → HasKeys new f c
keys_apply old new f c (Port n) (Some (records.Port r)) a h acts =
    record {
      ports = row_keys old.ports new.ports n (Apply r.admin a) (λ m. Port m) c acts.0 h.ports;
      gates = gates_same old.gates new.gates c acts.1 h.gates;
      frames = h.frames;
    }
keys_apply old new f c (Gate n) (Some (records.Gate r)) a h acts =
    record {
      ports = ports_same old.ports new.ports c acts.1 h.ports;
      gates = row_keys old.gates new.gates n (Apply r.admin a) (λ m. Gate m) c acts.0 h.gates;
      frames = h.frames;
    }
keys_apply old new f c k v a h acts = absurd acts
