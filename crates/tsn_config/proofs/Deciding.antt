-- The tests of `fits` answer true just where the change fits.
use Rattle.std.proofs.Common.{◌≡◌, ℕ, Bool, true, false, cond, not, List, [], ◌∷◌, refl, sym, ◌∙◌, ap, subst, Option, Some, None, map, arith, length}
use Rattle.std.specs.Prelude.{find, IfSome, IsSome, is_some, is_none, option_map}
use Rattle.std.specs.List.{IsDistinct}
use Rattle.std.specs.FinMap.{get, entries, entries_sorted, get-entries, find as find_entry, is_sorted}
use Rattle.std.specs.FinMap.Entries.{below_all}
use Rattle.std.specs.Ordering.{is_lt}
use Rattle.std.specs.Bool.{Decides}
use Rattle.std.proofs.lemmas.Bool.{and_from, and_parts, or_right, le-leb}
use Rattle.tsn_table.proofs.Orders.{of_T}
use Rattle.tsn_types.specs.declared.keys.Key.{Key}
use Rattle.tsn_types.specs.declared.keys.Key.TheVariants.{Port, Filter, Gate, Meter}
use Rattle.tsn_types.specs.declared.refusals.Refusal.{Refusal}
use Rattle.tsn_types.specs.declared.refusals.Refusal.TheVariants.{Dangling, Referred}
use Rattle.tsn_types.specs.declared.records.Record.{Record}
use Rattle.tsn_types.specs.declared.records.Record.TheVariants.{Port as PortRecord, Filter as FilterRecord, Gate as GateRecord, Meter as MeterRecord}
use Rattle.tsn_types.specs.declared.limits.Limits.{Limits}
use Rattle.tsn_types.specs.Keys.{key_cmp, same_key, has, refs}
use Rattle.tsn_types.specs.InRange.{RecordInRange}
use Rattle.tsn_types.specs.Numbers.{IsInstanceId}
use Rattle.tsn_types.specs.Limits.{HoldsKey, HoldsRecord, unless, first_cause, holds_key, out_of_limits, field_of}
use Rattle.tsn_edit.specs.Configuration.{Configuration, put, IsWellKept}
use Rattle.tsn_edit.specs.Parts.{Part}
use Rattle.tsn_edit.specs.Changes.{Fits}
use Rattle.tsn_edit.proofs.KeyFacts.{by_bool, by_option, get-put, one_key, same_itself, same_configuration}
use Rattle.tsn_edit.specs.Edits.{is_of_kind, is_port, referrer}
use Rattle.tsn_types.proofs.Causes.{each_none, unless-None, unless-true}
use Rattle.tsn_config.specs.Keeping.{keeps}
use Rattle.tsn_config.proofs.Edits.{fits_put, remove_kept, none_refers, map_none}

-- what stands at a key of a well kept map is within the limits
pub limits_hold : (l : Limits) (c : Configuration) (k : Key) (r : Record) → IsWellKept l (put c k (Some r))
    → HoldsKey l k × HoldsRecord l k r
limits_hold l c k r kept = kept.within k r (get-put c k (Some r) k ∙ ap (λ b. cond b (Some r) (get c k)) (same_itself k))

pub none_of : {A : Type 0} (o : Option A) → is_none o ≡ true → o ≡ None
none_of o h = grind arith

-- no cause where each test holds
pub no_cause : (test : Key → Bool) (why : Key → Refusal) (ks : List Key) → ((q : Key) → has ks q ≡ true → test q ≡ true)
    → first_cause (map (λ q. unless (test q) (why q)) ks) ≡ None
no_cause test why [] h = refl
no_cause test why (k ∷ ks) h = grind (arith, (no_cause test why ks (λ q is. h q (or_right (same_key q k) _ is))))

pub test_holds : (l : Limits) (k : Key) → HoldsKey l k → holds_key l k ≡ true
test_holds l k h = grind arith

pub of_kind : (l : Limits) (k : Key) (r : Record) → HoldsRecord l k r → is_of_kind k r ≡ true
of_kind l k r h = grind arith

-- no record refers to a key of its own kind
refs_other : (l : Limits) (k : Key) (r : Record) → HoldsRecord l k r → (q : Key) → has (refs r) q ≡ true → same_key q k ≡ false
refs_other l k r h q is = grind arith

pub find_above : (k : Key) (es : List (Key × Record)) → below_all key_cmp k es ≡ true → find_entry key_cmp k es ≡ None
find_above k [] h = refl
find_above k (e ∷ es) h = grind (arith, (find_above k es ((and_parts (is_lt (key_cmp k e.0)) _ h).1)))

-- what a test finds in a sorted list passes it, and stands at its key
pub found : (p : Key × Record → Bool) (es : List (Key × Record)) → is_sorted key_cmp es ≡ true → (e : Key × Record) → find p es ≡ Some e
    → (p e ≡ true) × (find_entry key_cmp e.0 es ≡ Some e.1)
found p [] h e is = (cc)
found p (x ∷ es) h e is = by_bool (p x)
    (λ yes. let this : Some x ≡ Some e = sym (ap (λ b. cond b (Some x) (find p es)) yes) ∙ is in
    let same : x ≡ e = (cc) in (
      ap p (sym same) ∙ yes,
      subst (λ (y : Key × Record). find_entry key_cmp y.0 (x ∷ es) ≡ Some y.1) same
          (ap (λ b. cond b (Some x.1) (find_entry key_cmp x.0 es)) (same_itself x.0)),
    ))
    (λ no. let rest = found p es ((and_parts (below_all key_cmp x.0 es) _ h).1) e (sym (ap (λ b. cond b (Some x) (find p es)) no) ∙ is) in (
      rest.0,
      by_bool (same_key e.0 x.0)
          (λ same. let none : find_entry key_cmp e.0 es ≡ None = ap (λ k. find_entry key_cmp k es) (one_key e.0 x.0 same)
          ∙ find_above x.0 es ((and_parts _ _ h).0) in
          let never : None ≡ Some e.1 = sym none ∙ rest.1 in (cc))
          (λ other. ap (λ b. cond b (Some x.1) (find_entry key_cmp e.0 es)) other ∙ rest.1),
    ))

no_referrer : (c : Configuration) (k : Key) → ((q : Key) (r : Record) → get c q ≡ Some r → has (refs r) k ≡ false) → referrer c k ≡ None
no_referrer c k free = by_option (find (λ e. has (refs e.1) k) (entries c))
    (λ none. ap (option_map (λ e. Referred e.0)) none)
    (λ e is. let at = found (λ e. has (refs e.1) k) (entries c) (of_T _ (entries_sorted c)) e is in
    let not_so : has (refs e.1) k ≡ false = free e.0 e.1 (get-entries c e.0 ∙ at.1) in
    let never : true ≡ false = sym at.0 ∙ not_so in (cc))

-- the filter that a referrer names is there
pub referrer_there : (c : Configuration) (k : Key) (n : ℕ) → Some (Referred (Filter n)) ≡ referrer c k → IsSome (get c (Filter n))
referrer_there c k n h = by_option (find (λ e. has (refs e.1) k) (entries c))
    (λ none. let never : Some (Referred (Filter n)) ≡ None = h ∙ ap (option_map (λ e. Referred e.0)) none in (cc))
    (λ e is. let at = found (λ e. has (refs e.1) k) (entries c) (of_T _ (entries_sorted c)) e is in
    let one : Some (Referred (Filter n)) ≡ Some (Referred e.0) = h ∙ ap (option_map (λ e. Referred e.0)) is in
    let key : Filter n ≡ e.0 = (cc) in
    ap (λ q. is_some (get c q)) key ∙ ap is_some (get-entries c e.0 ∙ at.1))

-- a filter that is there has a number in the range of its type
pub filter_small : (l : Limits) (c : Configuration) (n : ℕ) → IsWellKept l c → IsSome (get c (Filter n)) → IsInstanceId n
filter_small l c n kept some = by_option (get c (Filter n))
    (λ none. let never : false ≡ true = sym (ap is_some none) ∙ some in (cc))
    (λ r is. let below = (kept.within (Filter n) r is).0 in let most = kept.limits.1.0.1 in omega arith)

module _ (l : Limits) (c : Configuration) (kept : IsWellKept l c) where
  -- the references of a record that fits are there
  there : (k : Key) (r : Record) → IsWellKept l (put c k (Some r)) → (q : Key) → has (refs r) q ≡ true → IsSome (get c q)
  there k r after q is =
      let holds = (limits_hold l c k r after).1 in
      let at = after.referred k r q (get-put c k (Some r) k ∙ ap (λ b. cond b (Some r) (get c k)) (same_itself k)) is in
      ap is_some (sym (get-put c k (Some r) q ∙ ap (λ b. cond b (Some r) (get c q)) (refs_other l k r holds q is))) ∙ at

  within_limits : (q : Key) → IsSome (get c q) → holds_key l q ≡ true
  within_limits q some = by_option (get c q) (λ none. let h : is_some (get c q) ≡ false = ap is_some none in
      (cc)) (λ s is. test_holds l q (kept.within q s is).0)

  pub no_limits : (k : Key) (r : Record) → HoldsRecord l k r → ((q : Key) → has (refs r) q ≡ true → IsSome (get c q))
      → out_of_limits l r ≡ None
  no_limits (Port n) (PortRecord r) h there = unless-true _ _ (le-leb (length r.admin.list) l.list h)
  no_limits (Filter n) (FilterRecord r) h there =
      no_cause (holds_key l) field_of (refs (FilterRecord r)) (λ q is. within_limits q (there q is))
  no_limits (Gate n) (GateRecord r) h there = unless-true _ _ (le-leb (length r.admin.list) l.list h)
  no_limits (Meter n) (MeterRecord r) h there = refl
  no_limits k r h there = absurd h

  keeps_put : (k : Key) (b : Option Record) (r : Record) → IsWellKept l (put c k (Some r)) → keeps l c k b (Some r) ≡ true
  keeps_put k b r after =
      let h = limits_hold l c k r after in
      let refs_there = there k r after in
      rw (
        of_kind l k r h.1,
        test_holds l k h.0,
        no_limits k r h.1 refs_there,
        no_cause (λ q. is_some (get c q)) Dangling (refs r) refs_there,
      ) refl

  put_keeps : (k : Key) (b : Option Record) (r : Record) → RecordInRange r → keeps l c k b (Some r) ≡ true → IsWellKept l (put c k (Some r))
  put_keeps k b r ranges h = grind (arith, each_none, none_of, and_parts, fits_put, unless-None)

  gone : (k : Key) → get (put c k None) k ≡ None
  gone k = get-put c k None k ∙ ap (λ b. cond b None (get c k)) (same_itself k)

  never_gone : {G : Type 0} (k : Key) → IsSome (get (put c k None) k) → G
  never_gone k some = let never : false ≡ true = sym (ap is_some (gone k)) ∙ some in (cc)

  not_port : (k : Key) (s : Record) → get c k ≡ Some s → IsWellKept l (put c k None) → not (is_port k) ≡ true
  not_port (Port n) s is after = let h = (kept.within (Port n) s is).0 in never_gone (Port n) (after.ports n h.0 h.1)
  not_port (Filter n) s is after = refl
  not_port (Gate n) s is after = refl
  not_port (Meter n) s is after = refl

  unreferred : (k : Key) → IsWellKept l (put c k None) → (q : Key) (r : Record) → get c q ≡ Some r → has (refs r) k ≡ false
  unreferred k after q r is = by_bool (has (refs r) k)
      (λ yes. let other : same_key k q ≡ false = refs_other l q r (kept.within q r is).1 k yes in
      by_bool (same_key q k)
      (λ same. let never : true ≡ false = sym (same_itself k) ∙ ap (same_key k) (sym (one_key q k same)) ∙ other in (cc))
      (λ apart. never_gone k (after.referred q r k (get-put c k None q ∙ ap (λ b. cond b None (get c q)) apart ∙ is) yes)))
      (λ no. no)

  keeps_remove : (k : Key) (b : Option Record) → get c k ≡ b → IsWellKept l (put c k None) → keeps l c k b None ≡ true
  keeps_remove k None is after = refl
  keeps_remove k (Some s) is after = and_from _ _ (not_port k s is after) (ap is_none (no_referrer c k (unreferred k after)))

  remove_keeps : (k : Key) (b : Option Record) → get c k ≡ b → keeps l c k b None ≡ true → IsWellKept l (put c k None)
  remove_keeps k None is h =
      let same : put c k None ≡ c = same_configuration (put c k None) c (λ q. get-put c k None q ∙ by_bool (same_key q k)
      (λ same. ap (λ b. cond b None (get c q)) same ∙ sym is ∙ ap (get c) (sym (one_key q k same)))
      (λ other. ap (λ b. cond b None (get c q)) other)) in
      subst (IsWellKept l) (sym same) kept
  remove_keeps k (Some s) is h =
      remove_kept l c kept k ((and_parts _ _ h).0)
      (λ q r at. none_refers k (entries c) (map_none (λ e. Referred e.0) _ (none_of _ ((and_parts (not (is_port k)) _ h).1))) q r
      (sym (get-entries c q) ∙ at))

  to : (k : Key) (b v : Option Record) → IfSome v RecordInRange → get c k ≡ b → keeps l c k b v ≡ true → IsWellKept l (put c k v)
  to k b None ranges is h = remove_keeps k b is h
  to k b (Some r) ranges is h = put_keeps k b r ranges h

  from : (k : Key) (b v : Option Record) → get c k ≡ b → IsWellKept l (put c k v) → keeps l c k b v ≡ true
  from k b None is h = keeps_remove k b is h
  from k b (Some r) is h = keeps_put k b r h

  -- where the value before stands, the test decides whether the change fits
  pub fits_decides : (e : Part) → IfSome e.after RecordInRange → get c e.key ≡ e.before
      → Decides (keeps l c e.key e.before e.after) (Fits l c (e ∷ []))
  unfolding IsDistinct
  fits_decides e ranges is = (
    λ h. record { distinct = (tt, tt); stands = (is, tt); kept = to e.key e.before e.after ranges is h },
    λ f. from e.key e.before e.after is f.kept,
  )
