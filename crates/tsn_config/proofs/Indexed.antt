-- An index after a filter is set, and the least filter that an index tells.
use Rattle.std.proofs.Common.{◌≡◌, ℕ, ◌+◌, ◌*◌, ◌/◌, ◌%◌, ◌<◌, ◌≤◌, nat_eq, Bool, true, false, cond, List, [], ◌∷◌, refl, sym, ◌∙◌, ap, Option, Some, None, arith, IsSome}
use Rattle.std.specs.Prelude.{◌≢◌, is_some, IfSome, MatchOption}
use Rattle.std.specs.Option.{option_eq}
use lib.Dec.{eqb}
use Rattle.std.specs.Ordering.{nat_cmp, eq_by_cmp}
use Rattle.std.specs.Cmp.{nat_cmp_total}
use Rattle.std.specs.FinMap.{FinMap, empty, get, get-empty, insert, remove, entries, entries_sorted, get-entries, get-insert, get-remove, find}
use Rattle.std.proofs.lemmas.Bool.{cases_eq}
use Rattle.std.proofs.lemmas.Bool.Decides.{nat_tests}
use Rattle.tsn_table.proofs.Orders.{of_T}
use Rattle.tsn_table.proofs.Rows.{itself}
use Rattle.tsn_types.specs.declared.keys.Key.{Key}
use Rattle.tsn_types.specs.declared.keys.Key.TheVariants.{Gate, Meter}
use Rattle.tsn_types.specs.declared.records.Record.TheVariants.{Filter as FilterRecord}
use Rattle.tsn_types.specs.declared.records.StreamFilter.{StreamFilter}
use Rattle.tsn_types.specs.Keys.{has, meter_ref, refs}
use Rattle.tsn_table.specs.Firsts.{first_id}
use Rattle.tsn_table.proofs.Firsts.{MissesIn, first_is}
use Rattle.tsn_edit.proofs.KeyFacts.{by_bool}
use Rattle.tsn_config.specs.Indexes.{about_at, is_the, Indexes, IsIndexed, left, entered, AreSmall, AreNarrow, gate_about, meter_about, match_about, specified, specification}
use Rattle.tsn_config.specs.Filters.{specifies}
use Rattle.tsn_config.specs.Views.{set_row}

another : (q k : ℕ) → (q ≡ k → ⊥) → eq_by_cmp nat_cmp q k ≡ false
another q k no_same = grind (arith, nat_tests)

equal_is : (a b : ℕ) → a ≡ b → nat_eq a b ≡ true
equal_is a b e = grind (arith, nat_tests)

unequal_is : (a b : ℕ) → (a ≡ b → ⊥) → nat_eq a b ≡ false
unequal_is a b no_same = grind (arith, nat_tests)

module _ {X : Type 0} (m : FinMap nat_cmp X) where
  inserted : (k : ℕ) (v : X) → get (insert m k v) k ≡ Some v
  inserted k v = get-insert nat_cmp_total m k v k ∙ ap (λ b. cond b (Some v) (get m k)) (itself k)

  beside_inserted : (q k : ℕ) (v : X) → (q ≡ k → ⊥) → get (insert m k v) q ≡ get m q
  beside_inserted q k v no_same = get-insert nat_cmp_total m k v q ∙ ap (λ b. cond b (Some v) (get m q)) (another q k no_same)

  removed : (k : ℕ) → get (remove m k) k ≡ None
  removed k = get-remove nat_cmp_total m k k ∙ ap (λ b. cond b None (get m k)) (itself k)

  beside_removed : (q k : ℕ) → (q ≡ k → ⊥) → get (remove m k) q ≡ get m q
  beside_removed q k no_same = get-remove nat_cmp_total m k q ∙ ap (λ b. cond b None (get m q)) (another q k no_same)

  set_there : (k : ℕ) (v : Option X) → get (set_row m k v) k ≡ v
  set_there k v = grind (arith, removed, inserted)

  beside_set : (q k : ℕ) (v : Option X) → (q ≡ k → ⊥) → get (set_row m k v) q ≡ get m q
  beside_set q k v no_same = grind (arith, beside_removed, beside_inserted)

-- the rows of other filters stay
beside_left : (index : FinMap nat_cmp (Unit {0})) (n c : ℕ) (about : Option ℕ) → n < 65536 → (c % 65536 ≡ n → ⊥)
    → get (left index n about) c ≡ get index c
beside_left index n c about l no_same = grind (arith, beside_removed)

beside_entered : (index : FinMap nat_cmp (Unit {0})) (n c : ℕ) (about : Option ℕ) → n < 65536 → (c % 65536 ≡ n → ⊥)
    → get (entered index n about) c ≡ get index c
beside_entered index n c about l no_same = grind (arith, beside_inserted)

-- no row of the filter is left
left_at : (index : FinMap nat_cmp (Unit {0})) (n c : ℕ) (about : Option ℕ) → n < 65536 → c % 65536 ≡ n
    → is_some (get index c) ≡ is_the (c / 65536) about → is_some (get (left index n about) c) ≡ false
left_at index n c about l same h = grind (arith, cases_eq, removed, beside_removed, unequal_is)

entered_at : (index : FinMap nat_cmp (Unit {0})) (n c : ℕ) (about : Option ℕ) → n < 65536 → c % 65536 ≡ n → is_some (get index c) ≡ false
    → is_some (get (entered index n about) c) ≡ is_the (c / 65536) about
entered_at index n c about l same h = grind (arith, cases_eq, inserted, equal_is, beside_inserted, unequal_is)

module _ (about : StreamFilter → Option ℕ) (fs : FinMap nat_cmp StreamFilter) (n : ℕ) (before after : Option ℕ)
    (value : Option StreamFilter)
    (is_before : before ≡ about_at about (get fs n)) (is_after : after ≡ about_at about value) where
  -- what the filters are about, once one is set
  here : (c : ℕ) → c % 65536 ≡ n → is_the (c / 65536) after ≡ is_the (c / 65536) (about_at about (get (set_row fs n value) (c % 65536)))
  here c same =
      ap (is_the (c / 65536)) (is_after ∙ ap (about_at about) (sym (set_there fs n value) ∙ ap (get (set_row fs n value)) (sym same)))

  elsewhere : (c : ℕ) → (c % 65536 ≡ n → ⊥)
      → is_the (c / 65536) (about_at about (get fs (c % 65536))) ≡ is_the (c / 65536)
      (about_at about (get (set_row fs n value) (c % 65536)))
  elsewhere c no_same = ap (λ o. is_the (c / 65536) (about_at about o)) (sym (beside_set fs (c % 65536) n value no_same))

  was : (c : ℕ) → c % 65536 ≡ n → is_the (c / 65536) (about_at about (get fs (c % 65536))) ≡ is_the (c / 65536) before
  was c same = ap (is_the (c / 65536)) (ap (λ k. about_at about (get fs k)) same ∙ sym is_before)

  pub moved : (index : FinMap nat_cmp (Unit {0})) → n < 65536 → Indexes about fs index
      → Indexes about (set_row fs n value) (entered (left index n before) n after)
  moved index l h c = grind (arith, cases_eq, entered_at, left_at, was, here, beside_entered, beside_left, elsewhere)

  pub unmoved : (index : FinMap nat_cmp (Unit {0})) → before ≡ after → Indexes about fs index → Indexes about (set_row fs n value) index
  unmoved index alike h c = grind (arith, cases_eq, was, here, elsewhere)

-- the first row from those of a number on
abbrev pub Told : FinMap nat_cmp (Unit {0}) → ℕ → Option ℕ → Type 0
Told index q o = (c : ℕ) → q * 65536 ≤ c → IsSome (get index c) → MatchOption o ⊥ (λ least. least ≤ c)

-- the least filter that is about a number, from the first row that is found
module _ (about : StreamFilter → Option ℕ) (fs : FinMap nat_cmp StreamFilter) (p : StreamFilter → Bool) (index : FinMap nat_cmp (Unit {0}))
    (q : ℕ)
    (indexes : Indexes about fs index) (small : AreSmall fs) (tests : (n : ℕ) (r : StreamFilter) → get fs n ≡ Some r
    → p r ≡ is_the q (about r)) where
  row_there : (n : ℕ) (r : StreamFilter) → get fs n ≡ Some r → p r ≡ true → IsSome (get index (q * 65536 + n))
  row_there n r is passes = grind arith

  -- a filter with no row does not pass
  misses : (n : ℕ) → (IsSome (get index (q * 65536 + n)) → ⊥) → MissesIn p n (entries fs)
  misses n none r is =
      by_bool (p r) (λ passes. absurd (none (row_there n r (get-entries fs n ∙ is) passes))) (λ fails. fails)

  passing : (n : ℕ) (o : Option StreamFilter) → get fs n ≡ o → is_the q (about_at about o) ≡ true
      → (r : StreamFilter) × (find nat_cmp n (entries fs) ≡ Some r) × (p r ≡ true)
  passing n None is h = absurd (cc)
  passing n (Some r) is h = (r, sym (get-entries fs n) ∙ is, tests n r is ∙ h)

  pub least_none : Told index q None → None ≡ first_id p (entries fs)
  least_none told =
      first_is p (entries fs) (of_T _ (entries_sorted fs)) None (λ n. misses n (λ there. told (q * 65536 + n) (omega arith) there))

  pub least_other : (c : ℕ) → q * 65536 ≤ c → (c / 65536 ≡ q → ⊥) → Told index q (Some c) → None ≡ first_id p (entries fs)
  least_other c from other told =
      first_is p (entries fs) (of_T _ (entries_sorted fs)) None
      (λ n r is. misses n (λ there. let l : n < 65536 = small n (ap is_some (get-entries fs n ∙ is)) in
      let le = told (q * 65536 + n) (omega arith) there in other (omega arith)) r is)

  pub least_some : (c : ℕ) → q * 65536 ≤ c → IsSome (get index c) → c / 65536 ≡ q → Told index q (Some c)
      → Some (c % 65536) ≡ first_id p (entries fs)
  least_some c from there about_q told =
      let passes : is_the q (about_at about (get fs (c % 65536))) ≡ true = ap (λ k. is_the k (about_at about (get fs (c % 65536))))
      (sym about_q) ∙ sym (indexes c) ∙ there in
      first_is p (entries fs) (of_T _ (entries_sorted fs)) (Some (c % 65536)) (
        passing (c % 65536) (get fs (c % 65536)) refl passes,
        λ k lt. misses k (λ row. let le = told (q * 65536 + k) (omega arith) row in
            absurd (omega arith)),
      )

  -- the same by what is told of the filter of that row
  pub least_own : (c : ℕ) → q * 65536 ≤ c → IsSome (get index c) → Told index q (Some c) → (o : Option ℕ)
      → MatchOption o (c / 65536 ≢ q) (λ n. (c / 65536 ≡ q) × (n ≡ c % 65536)) → o ≡ first_id p (entries fs)
  least_own c from there told o other = grind (arith, least_other, least_some)

-- equal options of numbers are one
pub same_options : (o r : Option ℕ) → option_eq eqb o r ≡ true → o ≡ r
same_options o r h = grind arith

-- with no filter there is no row
indexes_none : (about : StreamFilter → Option ℕ) (fs : FinMap nat_cmp StreamFilter) (index : FinMap nat_cmp (Unit {0})) → fs ≡ empty
    → index ≡ empty → Indexes about fs index
indexes_none about fs index none no_row c =
    ap (λ (m : FinMap nat_cmp (Unit {0})). is_some (get m c)) no_row ∙ ap is_some (get-empty nat_cmp c)
    ∙ sym (ap (λ (m : FinMap nat_cmp StreamFilter). is_the (c / 65536) (about_at about (get m (c % 65536)))) none
    ∙ ap (λ o. is_the (c / 65536) (about_at about o)) (get-empty nat_cmp (c % 65536)))

no_value : (fs : FinMap nat_cmp StreamFilter) (n : ℕ) → fs ≡ empty → get fs n ≡ None
no_value fs n none = ap (λ (m : FinMap nat_cmp StreamFilter). get m n) none ∙ get-empty nat_cmp n

pub none_indexed : (fs : FinMap nat_cmp StreamFilter) (gates meters matches : FinMap nat_cmp (Unit {0})) → fs ≡ empty → gates ≡ empty
    → meters ≡ empty → matches ≡ empty → IsIndexed fs gates meters matches
none_indexed fs gates meters matches none g m s = grind (arith, no_value, indexes_none)

-- the numbers of filters and of their priorities, once one is set
module _ (fs : FinMap nat_cmp StreamFilter) (n : ℕ) (value : Option StreamFilter) where
  pub still_small : n < 65536 → AreSmall fs → AreSmall (set_row fs n value)
  still_small l small k there = grind (arith, cases_eq, beside_set)

  narrow_value : (o : Option StreamFilter) (r : StreamFilter) → IfSome o (λ q. specified q.priority < 16) → o ≡ Some r
      → specified r.priority < 16
  narrow_value o r h is = grind arith

  pub still_narrow : IfSome value (λ r. specified r.priority < 16) → AreNarrow fs → AreNarrow (set_row fs n value)
  still_narrow h narrow k r is = grind (arith, cases_eq, narrow_value, set_there, beside_set)

-- a filter refers to a gate or a meter where it is about it
gate_in : (q g : ℕ) (m : Option ℕ) → has (Gate g ∷ meter_ref m) (Gate q) ≡ nat_eq g q
gate_in q g m = grind arith

meter_in : (q g : ℕ) (m : Option ℕ) → has (Gate g ∷ meter_ref m) (Meter q) ≡ is_the q m
meter_in q g m = grind arith

pub refers_to_gate : (q : ℕ) (r : StreamFilter) → has (refs (FilterRecord r)) (Gate q) ≡ is_the q (gate_about r)
refers_to_gate q r = gate_in q r.gate r.meter

pub refers_to_meter : (q : ℕ) (r : StreamFilter) → has (refs (FilterRecord r)) (Meter q) ≡ is_the q (meter_about r)
refers_to_meter q r = meter_in q r.gate r.meter

pub no_first : (p : StreamFilter → Bool) (es : List (ℕ × StreamFilter)) → ((r : StreamFilter) → p r ≡ false) → None ≡ first_id p es
no_first p [] never = refl
no_first p (e ∷ es) never = no_first p es never ∙ ap (λ b. cond b (Some e.0) (first_id p es)) (sym (never e.1))

pub never_referred : (k : Key) → ((n : ℕ) → k ≡ Gate n → ⊥) → ((n : ℕ) → k ≡ Meter n → ⊥) → (r : StreamFilter)
    → has (refs (FilterRecord r)) k ≡ false
never_referred k no_gate no_meter r = grind arith

pub specifies_alike : (handle priority : Option ℕ) (r : StreamFilter) → specified priority < 16 → specified r.priority < 16
    → specifies handle priority r ≡ is_the (specification handle priority) (match_about r)
specifies_alike handle priority r l m = grind arith
