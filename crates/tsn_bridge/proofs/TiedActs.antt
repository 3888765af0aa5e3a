-- Instance data stays tied to the book where an act was entered, and the runner of its key stands for one act more; and where
-- entries were settled.
use Rattle.std.proofs.Common.{◌≡◌, ℕ, Bool, true, false, cond, refl, sym, ◌∙◌, ap, subst, List, [], ◌∷◌, Option, Some, None}
use Rattle.std.specs.List.{fold}
use Rattle.std.specs.FinMap.{FinMap, get, get-insert}
use Rattle.std.specs.Ordering.{nat_cmp, eq_by_cmp}
use Rattle.std.specs.Cmp.{nat_cmp_total}
use Rattle.tsn_types.specs.declared.keys.Key.{Key}
use Rattle.tsn_types.specs.declared.keys.Key.TheVariants.{Port, Filter, Gate, Meter}
use Rattle.tsn_types.specs.declared.records.Record.{Record}
use Rattle.tsn_types.specs.declared.records.Record.TheVariants as records
use Rattle.tsn_types.specs.declared.records.Schedule.{Schedule}
use Rattle.tsn_types.specs.declared.records.PortEntry.{PortEntry}
use Rattle.tsn_types.specs.declared.records.GateEntry.{GateEntry}
use Rattle.tsn_types.specs.Keys.{same_key}
use Rattle.tsn_edit.specs.Changes.{after_change, part_of}
use Rattle.tsn_edit.specs.Configuration.{Configuration}
use Rattle.tsn_edit.specs.Parts.{Change, Part, parts}
use Rattle.tsn_edit.specs.Runs.{run}
use Rattle.tsn_edit.proofs.KeyFacts.{after_or, get-after_change, one_key, part_on}
use Rattle.tsn_schedule.specs.Acts.{Act, Apply, Disable, Enable, with_act}
use Rattle.tsn_schedule.specs.Kept.{Kept}
use Rattle.tsn_schedule.specs.Stands.{StandsFor}
use Rattle.tsn_entries.specs.declared.entries.Act.{Act as Asked}
use Rattle.tsn_entries.specs.declared.entries.Act.TheVariants as asked
use Rattle.tsn_entries.specs.declared.entries.Entry.{Entry}
use Rattle.tsn_entries.specs.declared.entries.What.{What}
use Rattle.tsn_entries.specs.declared.entries.What.TheVariants.{Made, Undone, Redone, Acted, Settled}
use Rattle.tsn_entries.specs.Entries.{applies}
use Rattle.tsn_undo.specs.Ledger.{Ledger, enter, present}
use Rattle.tsn_undo.specs.Soundness.{configuration}
use Rattle.tsn_undo.proofs.Adding.{nothing_push}
use Rattle.tsn_chain.specs.Acts.{KeyActs, KeyApplies, RowActs}
use Rattle.tsn_chain.specs.Instances.{FrameData, HasKeys, Runners}
use Rattle.tsn_chain.proofs.Keys.{keys_act}
use Rattle.tsn_chain.proofs.Swapped.{one_number}
use Rattle.tsn_bridge.specs.Doing.{Does}
use Rattle.tsn_bridge.specs.Kept.{IsTied}
use Rattle.tsn_bridge.specs.Objects.{Object, after_entry, after_part, gate_at, gate_schedule, object, port_at, port_schedule, with_asked}
use Rattle.tsn_bridge.proofs.Following.{object_push}

-- ---- an object's record is that of the configuration

abbrev pub changed_by : Configuration → Option Change → Configuration
changed_by c None = c
changed_by c (Some e) = after_change c e

after_value : {E : Type 0} (q : Option Part) (o : Object E) (g : Option Record) → o.value ≡ g → (after_part o q).value ≡ after_or q g
after_value None o g h = h
after_value (Some p) o g h = refl

neither : {E : Type 0} (b : Bool) (o : Object E) (acts : List (Act E)) → (cond b (record { value = o.value; acts = acts }) o).value
    ≡ o.value
neither true o acts = refl
neither false o acts = refl

part_value : {E : Type 0} (k : Key) (c : Configuration) (o : Object E) (e : Change) → o.value ≡ get c k
    → (after_part o (part_of k (parts e))).value ≡ get (after_change c e) k
unfolding part_on
part_value k c o e h = after_value (part_of k (parts e)) o (get c k) h ∙ sym (get-after_change c e k)

pub value_step : {E : Type 0} (admin : Option Record → Option (Schedule E)) (k : Key) (c : Configuration) (o : Object E) (w : What)
    → o.value ≡ get c k → (after_entry admin k o w).value ≡ get (changed_by c (applies w)) k
value_step admin k c o (Made e) h = part_value k c o e h
value_step admin k c o (Undone n e) h = part_value k c o e h
value_step admin k c o (Redone n e) h = part_value k c o e h
value_step admin k c o (Acted act key a) h = neither (same_key k key) o (with_asked act (admin o.value) a o.acts) ∙ h
value_step admin k c o (Settled upto) h = h

pub configured : (c : Configuration) (number session : ℕ) (w : What) (es : List Entry)
    → configuration c (record { number = number; session = session; what = w } ∷ es) ≡ configuration (changed_by c (applies w)) es
configured c number session (Made e) es = refl
configured c number session (Undone n e) es = refl
configured c number session (Redone n e) es = refl
configured c number session (Acted act key a) es = refl
configured c number session (Settled upto) es = refl

value_run : {E : Type 0} (admin : Option Record → Option (Schedule E)) (k : Key) (es : List Entry) (c : Configuration) (o : Object E)
    → o.value ≡ get c k
    → (fold (λ (o : Object E) (e : Entry). after_entry admin k o e.what) o es).value ≡ get (configuration c es) k
value_run admin k [] c o h = h
value_run admin k (e ∷ es) c o h =
    value_run admin k es (changed_by c (applies e.what)) (after_entry admin k o e.what) (value_step admin k c o e.what h)
    ∙ ap (λ (d : Configuration). get d k) (sym (configured c e.number e.session e.what es))

pub value_is : {E : Type 0} (admin : Option Record → Option (Schedule E)) (k : Key) (b : Ledger)
    → (object admin k (get b.opening k) b.entries).value ≡ get (present b) k
value_is admin k b = value_run admin k b.entries b.opening (record { value = get b.opening k; acts = [] }) refl

-- ---- the row of the key, and the others

module _ {E : Type 0} (old new : FinMap nat_cmp (Kept E)) (m n : ℕ) (act : Act E) (row : RowActs old m act new) where
  at_row : get new n ≡ cond (eq_by_cmp nat_cmp n m) (Some row.is) (get old n)
  at_row = ap (λ (t : FinMap nat_cmp (Kept E)). get t n) row.set ∙ get-insert nat_cmp_total old m row.is n

  acted_row : (o : Object E) (acts : List (Act E)) (k : Kept E) (b : Bool) → eq_by_cmp nat_cmp n m ≡ b
      → (b ≡ true → acts ≡ with_act act o.acts)
      → ((k : Kept E) → get old n ≡ Some k → StandsFor k o.acts) → get new n ≡ Some k
      → StandsFor k (cond b (record { value = o.value; acts = acts }) o).acts
  acted_row o acts k true e asks h is =
      let here : Some row.is ≡ Some k = sym (at_row ∙ ap (λ b. cond b (Some row.is) (get old n)) e) ∙ is in
      let same : row.is ≡ k = cc in
      let was : get old n ≡ Some row.was = ap (get old) (one_number n m e) ∙ row.found in
      subst (λ (x : Kept E). StandsFor x acts) same
      (subst (λ (xs : List (Act E)). StandsFor row.is xs) (sym (asks refl)) (row.stands o.acts (h row.was was)))
  acted_row o acts k false e asks h is = h k (sym (at_row ∙ ap (λ b. cond b (Some row.is) (get old n)) e) ∙ is)

port_acted : (key : Key) (p : Act PortEntry) (g : Act GateEntry) (r r' : Runners) (o : Object PortEntry) (acts : List (Act PortEntry))
    (n : ℕ) (k : Kept PortEntry) → KeyActs r key p g r' → (same_key (Port n) key ≡ true → acts ≡ with_act p o.acts)
    → ((k : Kept PortEntry) → get r.ports n ≡ Some k → StandsFor k o.acts) → get r'.ports n ≡ Some k
    → StandsFor k (cond (same_key (Port n) key) (record { value = o.value; acts = acts }) o).acts
port_acted (Port m) p g r r' o acts n k h asks all is =
    acted_row r.ports r'.ports m n p h.0 o acts k (eq_by_cmp nat_cmp n m) refl asks all is
port_acted (Filter m) p g r r' o acts n k h asks all is = absurd h
port_acted (Gate m) p g r r' o acts n k h asks all is = all k (sym (ap (λ (t : FinMap nat_cmp (Kept PortEntry)). get t n) h.1) ∙ is)
port_acted (Meter m) p g r r' o acts n k h asks all is = absurd h

gate_acted : (key : Key) (p : Act PortEntry) (g : Act GateEntry) (r r' : Runners) (o : Object GateEntry) (acts : List (Act GateEntry))
    (n : ℕ) (k : Kept GateEntry) → KeyActs r key p g r' → (same_key (Gate n) key ≡ true → acts ≡ with_act g o.acts)
    → ((k : Kept GateEntry) → get r.gates n ≡ Some k → StandsFor k o.acts) → get r'.gates n ≡ Some k
    → StandsFor k (cond (same_key (Gate n) key) (record { value = o.value; acts = acts }) o).acts
gate_acted (Port m) p g r r' o acts n k h asks all is = all k (sym (ap (λ (t : FinMap nat_cmp (Kept GateEntry)). get t n) h.1) ∙ is)
gate_acted (Filter m) p g r r' o acts n k h asks all is = absurd h
gate_acted (Gate m) p g r r' o acts n k h asks all is =
    acted_row r.gates r'.gates m n g h.0 o acts k (eq_by_cmp nat_cmp n m) refl asks all is
gate_acted (Meter m) p g r r' o acts n k h asks all is = absurd h

module _ (b : Ledger) (r r' : Runners) (f : FrameData) (s : ℕ) (act : Asked) (key : Key) (a : ℕ) (h : IsTied b r f) where
  -- an act leaves the configuration
  same_map : present b ≡ present (enter b s (Acted act key a))
  same_map = sym (ap (run b.opening) (nothing_push b.entries s (Acted act key a) refl))

  tied_act : (p : Act PortEntry) (g : Act GateEntry) → KeyActs r key p g r'
      → ((n : ℕ) → same_key (Port n) key ≡ true
      → with_asked act (port_schedule (port_at b n).value) a (port_at b n).acts ≡ with_act p (port_at b n).acts)
      → ((n : ℕ) → same_key (Gate n) key ≡ true
      → with_asked act (gate_schedule (gate_at b n).value) a (gate_at b n).acts ≡ with_act g (gate_at b n).acts)
      → IsTied (enter b s (Acted act key a)) r' f
  tied_act p g is asks_port asks_gate = record {
    runs = record {
      ports = λ n k found. subst (λ (o : Object PortEntry). StandsFor k o.acts)
          (sym (object_push port_schedule (Port n) (get b.opening (Port n)) b.entries _))
          (port_acted key p g r r' (port_at b n) (with_asked act (port_schedule (port_at b n).value) a (port_at b n).acts) n k is
          (asks_port n) (h.runs.ports n) found);
      gates = λ n k found. subst (λ (o : Object GateEntry). StandsFor k o.acts)
          (sym (object_push gate_schedule (Gate n) (get b.opening (Gate n)) b.entries _))
          (gate_acted key p g r r' (gate_at b n) (with_asked act (gate_schedule (gate_at b n).value) a (gate_at b n).acts) n k is
          (asks_gate n) (h.runs.gates n) found);
    };
    keys = subst (λ c. HasKeys r' f c) same_map (keys_act r r' f (present b) key p g h.keys is);
  }

-- an apply takes the schedule of the key's present record
applied : (key : Key) (v : Option Record) (b : Ledger) (r r' : Runners) (f : FrameData) (s a : ℕ) → IsTied b r f → get (present b) key ≡ v
    → KeyApplies r key v a r' → IsTied (enter b s (Acted asked.Apply key a)) r' f
applied (Port m) (Some (records.Port q)) b r r' f s a h at is =
    tied_act b r r' f s asked.Apply (Port m) a h (Apply q.admin a) (Enable a) is
    (λ n e. ap (λ (v : Option Record). with_asked asked.Apply (port_schedule v) a (port_at b n).acts)
    (value_is port_schedule (Port n) b ∙ ap (get (present b)) (one_key (Port n) (Port m) e) ∙ at))
    (λ n e. absurd (cc))
applied (Gate m) (Some (records.Gate q)) b r r' f s a h at is =
    tied_act b r r' f s asked.Apply (Gate m) a h (Enable a) (Apply q.admin a) is
    (λ n e. absurd (cc))
    (λ n e. ap (λ (v : Option Record). with_asked asked.Apply (gate_schedule v) a (gate_at b n).acts)
    (value_is gate_schedule (Gate n) b ∙ ap (get (present b)) (one_key (Gate n) (Gate m) e) ∙ at))
applied key v b r r' f s a h at is = absurd is

done : (act : Asked) (key : Key) (v : Option Record) (b : Ledger) (r r' : Runners) (f : FrameData) (s a : ℕ) → IsTied b r f
    → get (present b) key ≡ v → Does r act key v a r' → IsTied (enter b s (Acted act key a)) r' f
done asked.Enable key v b r r' f s a h at is = tied_act b r r' f s asked.Enable key a h (Enable a) (Enable a) is (λ n e. refl) (λ n e. refl)
done asked.Disable key v b r r' f s a h at is =
    tied_act b r r' f s asked.Disable key a h (Disable a) (Disable a) is (λ n e. refl) (λ n e. refl)
done asked.Apply key v b r r' f s a h at is = applied key v b r r' f s a h at is

pub tied_done : (b b' : Ledger) (r r' : Runners) (f f' : FrameData) (s : ℕ) (act : Asked) (key : Key) (v : Option Record) (a : ℕ)
    → b' ≡ enter b s (Acted act key a) → f' ≡ f → get (present b) key ≡ v → Does r act key v a r' → IsTied b r f → IsTied b' r' f'
tied_done b b' r r' f f' s act key v a after same at is h = rw (after, same) (done act key v b r r' f s a h at is)

-- a settle is no act and changes no record
settled : (b : Ledger) (r : Runners) (f : FrameData) (s upto : ℕ) → IsTied b r f → IsTied (enter b s (Settled upto)) r f
settled b r f s upto h = record {
  runs = record {
    ports = λ n k found. subst (λ (o : Object PortEntry). StandsFor k o.acts)
        (sym (object_push port_schedule (Port n) (get b.opening (Port n)) b.entries _)) (h.runs.ports n k found);
    gates = λ n k found. subst (λ (o : Object GateEntry). StandsFor k o.acts)
        (sym (object_push gate_schedule (Gate n) (get b.opening (Gate n)) b.entries _)) (h.runs.gates n k found);
  };
  keys = subst (λ c. HasKeys r f c) (sym (ap (run b.opening) (nothing_push b.entries s (Settled upto) refl))) h.keys;
}

pub tied_settled : (b b' : Ledger) (r : Runners) (f : FrameData) (s upto : ℕ) → b' ≡ enter b s (Settled upto) → IsTied b r f → IsTied b' r f
tied_settled b b' r f s upto after h = rw after (settled b r f s upto h)
