-- Instance data stays tied to the book where an entry applied a change that fitted and the runtime followed it: whether the change was
-- made, undone or redone.
use Rattle.std.proofs.Common.{◌≡◌, ℕ, Bool, true, false, cond, refl, sym, ◌∙◌, ap, subst, List, [], ◌∷◌, ◌++◌, Option, Some, None}
use Rattle.std.proofs.lemmas.List.Sums.{fold-append}
use Rattle.std.specs.List.{IsDistinct}
use Rattle.std.specs.FinMap.{FinMap, get, insert, remove, get-insert, get-remove}
use Rattle.std.specs.Ordering.{nat_cmp, eq_by_cmp}
use Rattle.std.specs.Cmp.{nat_cmp_total}
use Rattle.tsn_types.specs.declared.keys.Key.{Key}
use Rattle.tsn_types.specs.declared.keys.Key.TheVariants.{Port, Filter, Gate, Meter}
use Rattle.tsn_types.specs.declared.records.Record.{Record}
use Rattle.tsn_types.specs.declared.records.Schedule.{Schedule}
use Rattle.tsn_types.specs.declared.records.PortEntry.{PortEntry}
use Rattle.tsn_types.specs.declared.records.GateEntry.{GateEntry}
use Rattle.tsn_types.specs.Keys.{same_key}
use Rattle.tsn_edit.specs.Changes.{Fits, keys_of, part_of}
use Rattle.tsn_edit.specs.Parts.{Change, Part, parts}
use Rattle.tsn_edit.proofs.FirstPart.{no_other}
use Rattle.tsn_edit.proofs.KeyFacts.{part_on, part_on_none}
use Rattle.tsn_schedule.specs.Kept.{Kept, fresh}
use Rattle.tsn_schedule.specs.Stands.{StandsFor}
use Rattle.tsn_schedule.proofs.Keeps.{fresh_stands}
use Rattle.tsn_entries.specs.declared.entries.What.{What}
use Rattle.tsn_entries.specs.declared.entries.What.TheVariants.{Made, Undone, Redone, Acted, Settled}
use Rattle.tsn_entries.specs.declared.entries.Entry.{Entry}
use Rattle.tsn_entries.specs.Entries.{applies}
use Rattle.tsn_undo.specs.Ledger.{Ledger, enter, present}
use Rattle.tsn_undo.proofs.Adding.{configuration_push}
use Rattle.tsn_chain.specs.Following.{frames_after, row_after, runners_after, runners_at}
use Rattle.tsn_chain.specs.Instances.{FrameData, HasKeys, Runners}
use Rattle.tsn_chain.proofs.Keys.{keys_fit}
use Rattle.tsn_bridge.specs.Objects.{Object, after_entry, after_part, gate_at, gate_schedule, lived, object, port_at, port_schedule}
use Rattle.tsn_bridge.specs.Kept.{IsTied, RunsActs}

-- one entry more
pub object_push : {E : Type 0} (admin : Option Record → Option (Schedule E)) (k : Key) (o : Option Record) (es : List Entry) (w : Entry)
    → object admin k o (es ++ w ∷ []) ≡ after_entry admin k (object admin k o es) w.what
object_push {E = E} admin k o es w =
    fold-append (λ (o : Object E) (e : Entry). after_entry admin k o e.what) (record { value = o; acts = [] }) es (w ∷ [])

-- an entry that applied a change
pub applied_entry : {E : Type 0} (admin : Option Record → Option (Schedule E)) (k : Key) (o : Object E) (w : What) (e : Change)
    → applies w ≡ Some e → after_entry admin k o w ≡ after_part o (part_of k (parts e))
applied_entry admin k o (Made f) e is = let same : f ≡ e = cc in ap (λ (g : Change). after_part o (part_of k (parts g))) same
applied_entry admin k o (Undone n f) e is = let same : f ≡ e = cc in ap (λ (g : Change). after_part o (part_of k (parts g))) same
applied_entry admin k o (Redone n f) e is = let same : f ≡ e = cc in ap (λ (g : Change). after_part o (part_of k (parts g))) same
applied_entry admin k o (Acted act key a) e is = absurd (cc)
applied_entry admin k o (Settled upto) e is = absurd (cc)

-- a row of the table of runners
module _ {E : Type 0} (t : FinMap nat_cmp (Kept E)) (m n : ℕ) (o : Object E) (k : Kept E) (h : (k : Kept E) → get t n ≡ Some k
    → StandsFor k o.acts) where
  removed : (b : Bool) → eq_by_cmp nat_cmp n m ≡ b → get (remove t m) n ≡ Some k
      → StandsFor k (cond b (record { value = None; acts = [] }) o).acts
  removed true e is =
      let none : None ≡ Some k = sym (get-remove nat_cmp_total t m n ∙ ap (λ b. cond b None (get t n)) e) ∙ is in absurd (cc)
  removed false e is = h k (sym (get-remove nat_cmp_total t m n ∙ ap (λ b. cond b None (get t n)) e) ∙ is)

  created : (r : Record) (b : Bool) → eq_by_cmp nat_cmp n m ≡ b → get (insert t m fresh) n ≡ Some k
      → StandsFor k (cond b (record { value = Some r; acts = [] }) o).acts
  created r true e is =
      let here : Some fresh ≡ Some k = sym (get-insert nat_cmp_total t m fresh n ∙ ap (λ b. cond b (Some fresh) (get t n)) e) ∙ is in
      let same : fresh ≡ k = cc in
      subst (λ (x : Kept E). StandsFor x []) same fresh_stands
  created r false e is = h k (sym (get-insert nat_cmp_total t m fresh n ∙ ap (λ b. cond b (Some fresh) (get t n)) e) ∙ is)

  replaced : (v : Option Record) (b : Bool) → get t n ≡ Some k → StandsFor k (cond b (record { value = v; acts = o.acts }) o).acts
  replaced v true is = h k is
  replaced v false is = h k is

  row_stands : (before after : Option Record) → get (row_after fresh before after t m) n ≡ Some k
      → StandsFor k (cond (eq_by_cmp nat_cmp n m) (record { value = after; acts = lived before after o.acts }) o).acts
  row_stands None None is = removed (eq_by_cmp nat_cmp n m) refl is
  row_stands (Some q) None is = removed (eq_by_cmp nat_cmp n m) refl is
  row_stands None (Some r) is = created r (eq_by_cmp nat_cmp n m) refl is
  row_stands (Some q) (Some r) is = replaced (Some r) (eq_by_cmp nat_cmp n m) is

-- the runner of a port, of a gate, after a change of any key
port_stands : (n : ℕ) (key : Key) (before after : Option Record) (r : Runners) (o : Object PortEntry) (k : Kept PortEntry)
    → ((k : Kept PortEntry) → get r.ports n ≡ Some k → StandsFor k o.acts)
    → get (runners_at r key before after).ports n ≡ Some k
    → StandsFor k (cond (same_key (Port n) key) (record { value = after; acts = lived before after o.acts }) o).acts
port_stands n (Port m) before after r o k h is = row_stands r.ports m n o k h before after is
port_stands n (Filter m) before after r o k h is = h k is
port_stands n (Gate m) before after r o k h is = h k is
port_stands n (Meter m) before after r o k h is = h k is

gate_stands : (n : ℕ) (key : Key) (before after : Option Record) (r : Runners) (o : Object GateEntry) (k : Kept GateEntry)
    → ((k : Kept GateEntry) → get r.gates n ≡ Some k → StandsFor k o.acts)
    → get (runners_at r key before after).gates n ≡ Some k
    → StandsFor k (cond (same_key (Gate n) key) (record { value = after; acts = lived before after o.acts }) o).acts
gate_stands n (Port m) before after r o k h is = h k is
gate_stands n (Filter m) before after r o k h is = h k is
gate_stands n (Gate m) before after r o k h is = row_stands r.gates m n o k h before after is
gate_stands n (Meter m) before after r o k h is = h k is

-- the object after a part on its key, which no later part is on
joined : {E : Type 0} (b : Bool) (o : Object E) (p : Part) (rest : Option Part) → (b ≡ true → rest ≡ None)
    → after_part (cond b (record { value = p.after; acts = lived p.before p.after o.acts }) o) rest ≡ after_part o (cond b (Some p) rest)
joined true o p rest none = ap (after_part (record { value = p.after; acts = lived p.before p.after o.acts })) (none refl)
joined false o p rest none = refl

-- no part behind the first is on its key
one_part : (p : Part) (ps : List Part) → IsDistinct same_key (keys_of (p ∷ ps)) → (k : Key) → same_key k p.key ≡ true → part_of k ps ≡ None
unfolding part_on
one_part p ps distinct k same = part_on_none k ps (no_other p ps distinct k same)

-- the runner of a key after the parts of a change, as it stands after each
parts_stand : {E : Type 0} (rows : Runners → FinMap nat_cmp (Kept E)) (at : Key) (n : ℕ)
    → ((key : Key) (before after : Option Record) (r : Runners) (o : Object E) (k : Kept E)
    → ((k : Kept E) → get (rows r) n ≡ Some k → StandsFor k o.acts) → get (rows (runners_at r key before after)) n ≡ Some k
    → StandsFor k (cond (same_key at key) (record { value = after; acts = lived before after o.acts }) o).acts)
    → (ps : List Part) → IsDistinct same_key (keys_of ps) → (r : Runners) (o : Object E) (k : Kept E)
    → ((k : Kept E) → get (rows r) n ≡ Some k → StandsFor k o.acts)
    → get (rows (runners_after r ps)) n ≡ Some k → StandsFor k (after_part o (part_of at ps)).acts
unfolding IsDistinct
parts_stand rows at n one [] distinct r o k h is = h k is
parts_stand {E = E} rows at n one (p ∷ ps) distinct r o k h is =
    let b = same_key at p.key in
    let changed : Object E = record { value = p.after; acts = lived p.before p.after o.acts } in
    subst (λ (q : Object E). StandsFor k q.acts) (joined b o p (part_of at ps) (one_part p ps distinct at))
    (parts_stand rows at n one ps distinct.1 (runners_at r p.key p.before p.after) (cond b changed o) k
    (λ k is. one p.key p.before p.after r o k h is) is)

module _ (b : Ledger) (s : ℕ) (w : What) (e : Change) (apply : applies w ≡ Some e) where
  acts_of : {E : Type 0} (admin : Option Record → Option (Schedule E)) (k : Key)
      → object admin k (get b.opening k) (enter b s w).entries ≡ after_part (object admin k (get b.opening k) b.entries)
      (part_of k (parts e))
  acts_of admin k =
      object_push admin k (get b.opening k) b.entries _ ∙ applied_entry admin k (object admin k (get b.opening k) b.entries) w e apply

  runs_on : (r : Runners) → IsDistinct same_key (keys_of (parts e)) → RunsActs b r → RunsActs (enter b s w) (runners_after r e)
  runs_on r distinct h = record {
    ports = λ n k is. subst (λ (o : Object PortEntry). StandsFor k o.acts) (sym (acts_of port_schedule (Port n)))
        (parts_stand (λ r. r.ports) (Port n) n (port_stands n) (parts e) distinct r (port_at b n) k (h.ports n) is);
    gates = λ n k is. subst (λ (o : Object GateEntry). StandsFor k o.acts) (sym (acts_of gate_schedule (Gate n)))
        (parts_stand (λ r. r.gates) (Gate n) n (gate_stands n) (parts e) distinct r (gate_at b n) k (h.gates n) is);
  }

  pub followed : (r : Runners) (f : FrameData) (now : ℕ) → IsTied b r f → Fits b.limits (present b) e
      → IsTied (enter b s w) (runners_after r e) (frames_after now f e)
  followed r f now h fits = record {
    runs = runs_on r fits.distinct h.runs;
    keys = subst (λ c. HasKeys (runners_after r e) (frames_after now f e) c) (sym (configuration_push b.opening b.entries s w e apply))
        (keys_fit b.limits (present b) r f now e h.keys fits);
  }
