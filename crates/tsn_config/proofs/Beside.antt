-- The least filter beside some keys that refers to a key, from what is known of the filters by number.
use Rattle.std.proofs.Common.{◌≡◌, ℕ, ◌<◌, ◌≤◌, arith, Bool, true, false, cond, not, ◌&&◌, List, [], ◌∷◌, sym, ◌∙◌, ap, Option, Some, None}
use Rattle.std.specs.Prelude.{find, option_map}
use Rattle.std.specs.FinMap.{get, entries, entries_sorted, get-entries, find as find_entry, is_sorted}
use Rattle.std.specs.FinMap.Entries.{below_all}
use Rattle.std.specs.Ordering.{is_lt}
use Rattle.std.proofs.lemmas.Bool.{and_from, and_parts}
use Rattle.std.proofs.Math.Bool.{and-false}
use Rattle.tsn_table.proofs.Orders.{less_is, of_T}
use Rattle.tsn_types.specs.declared.keys.Key.{Key}
use Rattle.tsn_types.specs.declared.keys.Key.TheVariants.{Filter}
use Rattle.tsn_types.specs.declared.refusals.Refusal.TheVariants.{Referred}
use Rattle.tsn_types.specs.declared.records.Record.{Record}
use Rattle.tsn_types.specs.declared.limits.Limits.{Limits}
use Rattle.tsn_types.specs.Keys.{key_cmp, same_key, has, refs}
use Rattle.tsn_types.specs.Limits.{HoldsRecord}
use Rattle.tsn_edit.specs.Configuration.{Configuration, IsWellKept}
use Rattle.tsn_edit.proofs.KeyFacts.{by_bool, by_option, one_key, same_itself}
use Rattle.tsn_config.specs.Keeping.{referrer_beside, refers}
use Rattle.tsn_config.proofs.Deciding.{find_above, found}

-- a key in a sorted list is above those before it
above : (x k : Key) (r : Record) (es : List (Key × Record)) → below_all key_cmp x es ≡ true → find_entry key_cmp k es ≡ Some r
    → is_lt (key_cmp x k) ≡ true
above x k r [] h is = (cc)
above x k r (e ∷ es) h is = by_bool (same_key k e.0)
    (λ same. ap (λ q. is_lt (key_cmp x q)) (one_key k e.0 same) ∙ (and_parts _ _ h).0)
    (λ other. above x k r es ((and_parts (is_lt (key_cmp x e.0)) _ h).1)
    (sym (ap (λ b. cond b (Some e.1) (find_entry key_cmp k es)) other) ∙ is))

-- the entry that passes a test is found where no lesser one does
least_found : (t : Key × Record → Bool) (es : List (Key × Record)) → is_sorted key_cmp es ≡ true → (k : Key) (r : Record)
    → find_entry key_cmp k es ≡ Some r → t (k, r) ≡ true
    → ((q : Key) (s : Record) → find_entry key_cmp q es ≡ Some s → is_lt (key_cmp q k) ≡ true → t (q, s) ≡ false) → find t es ≡ Some (k, r)
least_found t [] h k r is passes least = (cc)
least_found t (x ∷ es) h k r is passes least = by_bool (same_key k x.0)
    (λ same.
    let key : k ≡ x.0 = one_key k x.0 same in
    let value : x.1 ≡ r = (let this : Some x.1 ≡ Some r = sym (ap (λ b. cond b (Some x.1) (find_entry key_cmp k es)) same) ∙ is in (cc)) in
    let one : x ≡ (k, r) = (λ i. (sym key i, value i)) in
    ap (λ b. cond b (Some x) (find t es)) (ap t one ∙ passes) ∙ ap Some one)
    (λ other.
    let below = (and_parts _ _ h).0 in
    let in_es : find_entry key_cmp k es ≡ Some r = sym (ap (λ b. cond b (Some x.1) (find_entry key_cmp k es)) other) ∙ is in
    let fails : t x ≡ false = least x.0 x.1 (ap (λ b. cond b (Some x.1) (find_entry key_cmp x.0 es)) (same_itself x.0))
    (above x.0 k r es below in_es) in
    ap (λ b. cond b (Some x) (find t es)) fails
    ∙ least_found t es ((and_parts (below_all key_cmp x.0 es) _ h).1) k r in_es passes
    (λ q s at lt. least q s (ap (λ b. cond b (Some x.1) (find_entry key_cmp q es)) (another q s below at) ∙ at) lt))
  where
    another : (q : Key) (s : Record) → below_all key_cmp x.0 es ≡ true → find_entry key_cmp q es ≡ Some s → same_key q x.0 ≡ false
    another q s below at = by_bool (same_key q x.0)
        (λ same. let never : None ≡ Some s = sym (ap (λ k. find_entry key_cmp k es) (one_key q x.0 same) ∙ find_above x.0 es below) ∙ at in
        (cc))
        (λ no. no)

-- only a filter refers to anything
owner : (l : Limits) (k q : Key) (r : Record) → HoldsRecord l q r → has (refs r) k ≡ true → (n : ℕ) × (q ≡ Filter n)
owner l k q r h is = grind arith

module _ (l : Limits) (c : Configuration) (kept : IsWellKept l c) (ks : List Key) (k : Key) where
  abbrev passes : Key × Record → Bool
  passes e = has (refs e.1) k && not (has ks e.0)

  fails : (q : Key) (r : Record) → get c q ≡ Some r
      → ((n : ℕ) → q ≡ Filter n → refers (get c (Filter n)) k ≡ true → has ks (Filter n) ≡ true) → passes (q, r) ≡ false
  fails q r is on = by_bool (has (refs r) k)
      (λ yes.
      let filter = owner l k q r (kept.within q r is).1 yes in
      let here : refers (get c (Filter filter.0)) k ≡ true = ap (λ q. refers (get c q) k) (sym filter.1) ∙ ap (λ v. refers v k) is ∙ yes in
      ap (λ b. has (refs r) k && not b) (ap (has ks) filter.1 ∙ on filter.0 filter.1 here) ∙ and-false (has (refs r) k))
      (λ no. ap (λ b. b && not (has ks q)) no)

  -- every filter that refers to the key is one of these
  pub none_beside : ((n : ℕ) → refers (get c (Filter n)) k ≡ true → has ks (Filter n) ≡ true) → referrer_beside ks c k ≡ None
  none_beside on = by_option (find passes (entries c))
      (λ none. ap (option_map (λ e. Referred e.0)) none)
      (λ e is.
      let at_e = found passes (entries c) (of_T _ (entries_sorted c)) e is in
      let never : true ≡ false = sym at_e.0 ∙ fails e.0 e.1 (get-entries c e.0 ∙ at_e.1) (λ n _ h. on n h) in (cc))

  refers_by : (v : Option Record) → refers v k ≡ true → (r : Record) × (v ≡ Some r) × (has (refs r) k ≡ true)
  refers_by v h = grind arith

  -- the filter refers to the key and is none of these, and every lesser one that refers to it is
  pub one_beside : (n : ℕ) → refers (get c (Filter n)) k ≡ true → has ks (Filter n) ≡ false
      → ((m : ℕ) → m < n → refers (get c (Filter m)) k ≡ true → has ks (Filter m) ≡ true)
      → referrer_beside ks c k ≡ Some (Referred (Filter n))
  one_beside n is off on =
      let by = refers_by (get c (Filter n)) is in
      ap (option_map (λ e. Referred e.0))
      (least_found passes (entries c) (of_T _ (entries_sorted c)) (Filter n) by.0 (sym (get-entries c (Filter n)) ∙ by.1)
      (and_from _ _ by.2 (ap not off))
      (λ q s at lt. fails q s (get-entries c q ∙ at)
      (λ m same h. on m (less_is m n (sym (ap (λ q. is_lt (key_cmp q (Filter n))) same) ∙ lt)) h)))

module _ (c : Configuration) (ks : List Key) (k : Key) where
  -- each lesser filter than this that refers to the key is one of these
  abbrev pub AreOn : ℕ → Type 0
  AreOn from = (n : ℕ) → n < from → refers (get c (Filter n)) k ≡ true → has ks (Filter n) ≡ true

  pub below_next : (from next : ℕ) → AreOn from → ((n : ℕ) → from ≤ n → refers (get c (Filter n)) k ≡ true → next ≤ n) → AreOn next
  below_next from next below least n lt h = grind arith

  pub none_left : (from : ℕ) → AreOn from → ((n : ℕ) → from ≤ n → refers (get c (Filter n)) k ≡ true → ⊥) → (n : ℕ)
      → refers (get c (Filter n)) k ≡ true → has ks (Filter n) ≡ true
  none_left from below least n h = grind arith
