-- The first absent reference in the order of keys is found by a test of the filters.
use Rattle.std.proofs.Common.{◌≡◌, ℕ, Bool, true, false, cond, List, [], ◌∷◌, ◌++◌, refl, sym, ◌∙◌, ap, Option, Some, None, map, arith}
use Rattle.std.specs.Prelude.{IsSome, is_some}
use Rattle.std.specs.Option.{option_or}
use Rattle.std.specs.Ordering.{nat_cmp, eq_by_cmp, is_lt}
use Rattle.std.specs.FinMap.{FinMap, get, entries, entries_sorted, get-entries, is_sorted, find}
use Rattle.std.specs.FinMap.Entries.{below_all}
use Rattle.std.proofs.lemmas.Bool.{and_parts}
use Rattle.std.proofs.lemmas.Bool.Decides.{nat_tests}
use Rattle.std.proofs.lemmas.List.{append-nil}
use Rattle.tsn_table.proofs.Orders.{of_T}
use Rattle.tsn_types.specs.declared.keys.Key.{Key}
use Rattle.tsn_types.specs.declared.keys.Key.TheVariants.{Port, Filter, Gate, Meter}
use Rattle.tsn_types.specs.declared.refusals.Refusal.{Refusal}
use Rattle.tsn_types.specs.declared.records.Record.{Record}
use Rattle.tsn_types.specs.declared.records.Record.TheVariants.{Port as PortRecord, Filter as FilterRecord, Gate as GateRecord, Meter as MeterRecord}
use Rattle.tsn_types.specs.declared.records.PortGates.{PortGates}
use Rattle.tsn_types.specs.declared.records.StreamFilter.{StreamFilter}
use Rattle.tsn_types.specs.declared.records.StreamGate.{StreamGate}
use Rattle.tsn_types.specs.declared.records.FlowMeter.{FlowMeter}
use Rattle.tsn_types.specs.Limits.{first_cause}
use Rattle.tsn_table.specs.Firsts.{first_id}
use Rattle.tsn_edit.specs.Configuration.{Configuration}
use Rattle.tsn_edit.specs.Edits.{dangling}
use Rattle.tsn_edit.proofs.KeyFacts.{by_bool}
use Rattle.tsn_config.specs.Opening.{dangling_cause}
use Rattle.tsn_config.specs.Views.{keyed_rows, map_of_tables}
use Rattle.tsn_config.proofs.Listed.{entries-map_of_tables}

-- whether a reference of the filter is absent
abbrev pub dangles : Configuration → StreamFilter → Bool
dangles c r = is_some (dangling c (FilterRecord r))

-- the first cause of the entries
abbrev causes_of : Configuration → List (Key × Record) → Option Refusal
causes_of c es = first_cause (map (λ e. dangling c e.1) es)

some_or : {A : Type 0} (o p : Option A) → is_some o ≡ true → option_or o p ≡ o
some_or o p h = grind arith

none_or : {A : Type 0} (o p : Option A) → is_some o ≡ false → option_or o p ≡ p
none_or o p h = grind arith

equal_itself : (n m : ℕ) → m ≡ n → eq_by_cmp nat_cmp n m ≡ true
equal_itself n m h = grind (arith, nat_tests)

equal_one : (n m : ℕ) → eq_by_cmp nat_cmp n m ≡ true → m ≡ n
equal_one n m h = grind (arith, nat_tests)

find_above : {A : Type 0} (n : ℕ) (es : List (ℕ × A)) → below_all nat_cmp n es ≡ true → find nat_cmp n es ≡ None
find_above n [] h = refl
find_above n (e ∷ es) h = grind (arith, (find_above n es ((and_parts (is_lt (nat_cmp n e.0)) _ h).1)))

-- a row that a test finds is there
first_some : {A : Type 0} (p : A → Bool) (es : List (ℕ × A)) (n : ℕ) → first_id p es ≡ Some n → is_some (find nat_cmp n es) ≡ true
first_some p [] n h = (cc)
first_some p (e ∷ es) n h = by_bool (eq_by_cmp nat_cmp n e.0)
    (λ same. ap (λ b. is_some (cond b (Some e.1) (find nat_cmp n es))) same)
    (λ other. ap (λ b. is_some (cond b (Some e.1) (find nat_cmp n es))) other
    ∙ by_bool (p e.1)
    (λ yes. let this : Some e.0 ≡ Some n = sym (ap (λ b. cond b (Some e.0) (first_id p es)) yes) ∙ h in
    let same : e.0 ≡ n = (cc) in
    let never : true ≡ false = sym (equal_itself n e.0 same) ∙ other in (cc))
    (λ misses. first_some p es n (sym (ap (λ b. cond b (Some e.0) (first_id p es)) misses) ∙ h)))

module _ (c : Configuration) where
  -- entries with no references have no cause
  skipped : {A : Type 0} (key : ℕ → Key) (rec : A → Record) → ((r : A) → dangling c (rec r) ≡ None)
      → (es : List (ℕ × A)) (ys : List (Key × Record)) → causes_of c (keyed_rows key rec es ++ ys) ≡ causes_of c ys
  skipped key rec none [] ys = refl
  skipped key rec none (e ∷ es) ys =
      ap (λ o. option_or o (causes_of c (keyed_rows key rec es ++ ys))) (none e.1) ∙ skipped key rec none es ys

  none_first : (es : List (ℕ × StreamFilter)) (ys : List (Key × Record)) → first_id (dangles c) es ≡ None
      → causes_of c (keyed_rows Filter FilterRecord es ++ ys) ≡ causes_of c ys
  none_first [] ys h = refl
  none_first (e ∷ es) ys h = by_bool (dangles c e.1)
      (λ yes. let never : Some e.0 ≡ None = sym (ap (λ b. cond b (Some e.0) (first_id (dangles c) es)) yes) ∙ h in (cc))
      (λ no. none_or (dangling c (FilterRecord e.1)) (causes_of c (keyed_rows Filter FilterRecord es ++ ys)) no
      ∙ none_first es ys (sym (ap (λ b. cond b (Some e.0) (first_id (dangles c) es)) no) ∙ h))

  first_is : (es : List (ℕ × StreamFilter)) (ys : List (Key × Record)) → is_sorted nat_cmp es ≡ true → (n : ℕ) (r : StreamFilter)
      → first_id (dangles c) es ≡ Some n → find nat_cmp n es ≡ Some r
      → causes_of c (keyed_rows Filter FilterRecord es ++ ys) ≡ dangling c (FilterRecord r)
  first_is [] ys sorted n r h is = (cc)
  first_is (e ∷ es) ys sorted n r h is = by_bool (dangles c e.1)
      (λ yes. let this : Some e.0 ≡ Some n = sym (ap (λ b. cond b (Some e.0) (first_id (dangles c) es)) yes) ∙ h in
      let same : e.0 ≡ n = (cc) in
      let found : Some e.1 ≡ Some r = sym (ap (λ b. cond b (Some e.1) (find nat_cmp n es)) (equal_itself n e.0 same)) ∙ is in
      let one : e.1 ≡ r = (cc) in
      some_or (dangling c (FilterRecord e.1)) (causes_of c (keyed_rows Filter FilterRecord es ++ ys)) yes
      ∙ ap (λ x. dangling c (FilterRecord x)) one)
      (λ no. let rest : first_id (dangles c) es ≡ Some n = sym (ap (λ b. cond b (Some e.0) (first_id (dangles c) es)) no) ∙ h in
      none_or (dangling c (FilterRecord e.1)) (causes_of c (keyed_rows Filter FilterRecord es ++ ys)) no
      ∙ by_bool (eq_by_cmp nat_cmp n e.0)
      (λ same. let none : find nat_cmp n es ≡ None = ap (λ x. find nat_cmp x es) (sym (equal_one n e.0 same))
      ∙ find_above e.0 es ((and_parts _ _ sorted).0) in
      let never : false ≡ true = sym (ap is_some none) ∙ first_some (dangles c) es n rest in (cc))
      (λ other. first_is es ys ((and_parts (below_all nat_cmp e.0 es) _ sorted).1) n r rest
      (sym (ap (λ b. cond b (Some e.1) (find nat_cmp n es)) other) ∙ is)))

module _ (ps : FinMap nat_cmp PortGates) (fs : FinMap nat_cmp StreamFilter) (gs : FinMap nat_cmp StreamGate) (ms : FinMap nat_cmp FlowMeter)
  where
    abbrev all : Configuration
    all = map_of_tables ps fs gs ms

    abbrev others : List (Key × Record)
    others = keyed_rows Gate GateRecord (entries gs) ++ keyed_rows Meter MeterRecord (entries ms)

    of_filters : dangling_cause all ≡ causes_of all (keyed_rows Filter FilterRecord (entries fs) ++ others)
    of_filters = ap (causes_of all) (entries-map_of_tables ps fs gs ms)
        ∙ skipped all Port PortRecord (λ r. refl) (entries ps) (keyed_rows Filter FilterRecord (entries fs) ++ others)

    no_others : causes_of all others ≡ None
    no_others =
        skipped all Gate GateRecord (λ r. refl) (entries gs) (keyed_rows Meter MeterRecord (entries ms))
        ∙ ap (causes_of all) (sym (append-nil (keyed_rows Meter MeterRecord (entries ms))))
        ∙ skipped all Meter MeterRecord (λ r. refl) (entries ms) []

    pub dangling_cause-none : first_id (dangles all) (entries fs) ≡ None → dangling_cause all ≡ None
    dangling_cause-none h = of_filters ∙ none_first all (entries fs) others h ∙ no_others

    pub dangling_cause-first : (n : ℕ) (r : StreamFilter) → first_id (dangles all) (entries fs) ≡ Some n → get fs n ≡ Some r
        → dangling_cause all ≡ dangling all (FilterRecord r)
    dangling_cause-first n r h is =
        of_filters ∙ first_is all (entries fs) others (of_T _ (entries_sorted fs)) n r h (sym (get-entries fs n) ∙ is)

    pub first_there : (n : ℕ) → first_id (dangles all) (entries fs) ≡ Some n → IsSome (get fs n)
    first_there n h = ap is_some (get-entries fs n) ∙ first_some (dangles all) (entries fs) n h
