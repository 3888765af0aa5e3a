-- A configuration that is opened from the records that a setup names is the one that they are named in.
use Rattle.std.proofs.Common.{◌≡◌, ◌≤◌, ℕ, zero, suc, length, arith, true, false, cond, ◌||◌, not, List, [], ◌∷◌, ◌++◌, map, refl, sym, ◌∙◌, ap, Option, Some, None}
use Rattle.std.specs.Prelude.{is_some, nat_le}
use Rattle.std.specs.Option.{option_or}
use Rattle.std.specs.FinMap.{entries, find, get, get-from_entries, is_sorted}
use Rattle.std.specs.FinMap.Entries.{below_all}
use Rattle.std.specs.List.{AllByRecursion}
use Rattle.std.proofs.lemmas.Bool.{and_parts, eqb-true, leb-true}
use Rattle.tsn_types.specs.declared.keys.Key.{Key}
use Rattle.tsn_types.specs.declared.keys.Key.TheVariants.{Port, Filter, Gate, Meter}
use Rattle.tsn_types.specs.declared.limits.Limits.{Limits}
use Rattle.tsn_types.specs.declared.records.PortEntry.{PortEntry}
use Rattle.tsn_types.specs.declared.records.PortGates.{PortGates}
use Rattle.tsn_types.specs.declared.records.Record.{Record}
use Rattle.tsn_types.specs.declared.records.Record.TheVariants as records
use Rattle.tsn_types.specs.declared.refusals.Field.TheVariants.{Id as IdField}
use Rattle.tsn_types.specs.declared.refusals.Refusal.{Refusal}
use Rattle.tsn_types.specs.declared.refusals.Refusal.TheVariants.{Dangling, Exists, Range}
use Rattle.tsn_types.specs.Keys.{has, key_cmp, refs, same_key}
use Rattle.tsn_types.specs.Limits.{HoldsKey, HoldsRecord, first_cause, unless}
use Rattle.tsn_edit.specs.Configuration.{Configuration, IsWellKept}
use Rattle.tsn_edit.specs.Edits.{dangling, is_of_kind}
use Rattle.tsn_edit.proofs.KeyFacts.{by_bool, keys_total, one_key, same_configuration, same_itself}
use Rattle.tsn_types.specs.InRange.{KeyedInRange, RecordInRange}
use Rattle.tsn_config.specs.Opening.{AreOfKind, RecordsInRange, dangling_cause, default_port, default_ports, limit_cause, limits_cause, opening, opening_refusal, repeated_key}
use Rattle.tsn_config.proofs.Deciding.{no_cause, no_limits, of_kind as right_kind, test_holds}
use Rattle.tsn_config.proofs.Joined.{find_append}
use Rattle.tsn_config.proofs.Ranges.{kept_in_range}
use Rattle.tsn_export.specs.Going.{Entries}
use Rattle.tsn_export.specs.Text.{is_default, named}
use Rattle.tsn_export.proofs.Along.{above_other, each_moved, each_stands}
use Rattle.tsn_export.proofs.Named.{is_named, kept, named_each, named_found, named_sorted}
use Rattle.tsn_config.proofs.OpeningKept.{last_port}

-- ---- the port that no setup names

no_entries : (es : List PortEntry) → length es ≡ 0 → es ≡ []
no_entries [] h = refl
no_entries (e ∷ es) h = absurd (omega (arith, h))

default_is : (p : PortGates) → is_default (records.Port p) ≡ true → records.Port p ≡ default_port
default_is p h =
    let gates = and_parts _ _ h in
    let list = and_parts _ _ gates.1 in
    let cycle = and_parts _ _ list.1 in
    let rest = and_parts _ _ cycle.1 in
    let g : p.gates ≡ 255 = eqb-true _ _ gates.0 in
    let es : p.admin.list ≡ [] = no_entries p.admin.list (eqb-true _ _ list.0) in
    let c : p.admin.cycle ≡ 1000000 = eqb-true _ _ cycle.0 in
    let x : p.admin.extension ≡ 0 = eqb-true _ _ rest.0 in
    let b : p.admin.base ≡ 0 = eqb-true _ _ rest.1 in
    λ i. records.Port (record { gates = g i; admin = record { list = es i; cycle = c i; extension = x i; base = b i } })

-- ---- the default ports

-- a key that is none of theirs
absent : (k : Key) (m : ℕ) → ((n : ℕ) → 1 ≤ n → n ≤ m → same_key k (Port n) ≡ false) → find key_cmp k (default_ports m) ≡ None
absent k zero other = refl
absent k (suc m) other =
    find_append k (default_ports m) ((Port (suc m), default_port) ∷ [])
    ∙ (λ i. option_or (absent k m (λ n low high. other n low (omega (arith, high))) i)
    (cond (other (suc m) (omega arith) (omega arith) i) (Some default_port) None))

lower_port : (n m : ℕ) → n ≤ m → same_key (Port (suc m)) (Port n) ≡ false
lower_port n m high = by_bool (same_key (Port (suc m)) (Port n))
    (λ same. let one : Port (suc m) ≡ Port n = one_key (Port (suc m)) (Port n) same in
    let number : suc m ≡ n = (cc) in absurd (omega (arith, number, high)))
    (λ other. other)

default_found : (n m : ℕ) → 1 ≤ n → n ≤ m → find key_cmp (Port n) (default_ports m) ≡ Some default_port
default_found n zero low high = absurd (omega (arith, low, high))
default_found n (suc m) low high =
    find_append (Port n) (default_ports m) ((Port (suc m), default_port) ∷ [])
    ∙ by_bool (nat_le n m)
    (λ within. ap (λ o. option_or o (find key_cmp (Port n) ((Port (suc m), default_port) ∷ [])))
    (default_found n m low (leb-true n m within)))
    (λ above. ap (λ q. option_or (find key_cmp (Port q) (default_ports m)) (find key_cmp (Port q) ((Port (suc m), default_port) ∷ [])))
    (last_port n m high above)
    ∙ ap (λ o. option_or o (find key_cmp (Port (suc m)) ((Port (suc m), default_port) ∷ [])))
    (absent (Port (suc m)) m (λ q below up. lower_port q m up))
    ∙ ap (λ b. cond b (Some default_port) None) (same_itself (Port (suc m))))

-- ---- causes

no_first_cause : (cause : Key × Record → Option Refusal) (es : Entries) → AllByRecursion (λ e. cause e ≡ None) es
    → first_cause (map (λ e. cause e) es) ≡ None
no_first_cause cause [] each = refl
no_first_cause cause (e ∷ es) each = (λ i. option_or (each.0 i) (no_first_cause cause es each.1 i))

-- entries in the order of keys repeat none, and none that was seen before
unseen_more : (k : Key) (seen : List Key) (es : Entries) → below_all key_cmp k es ≡ true
    → AllByRecursion (λ e. has seen e.0 ≡ false) es → AllByRecursion (λ e. has (k ∷ seen) e.0 ≡ false) es
unseen_more k seen [] below unseen = tt
unseen_more k seen (e ∷ es) below unseen =
    let both = and_parts _ (below_all key_cmp k es) below in
    ((λ i. above_other k e.0 both.0 i || unseen.0 i), unseen_more k seen es both.1 unseen.1)

no_repeat : (seen : List Key) (es : Entries) → is_sorted key_cmp es ≡ true → AllByRecursion (λ e. has seen e.0 ≡ false) es
    → repeated_key seen es ≡ None
no_repeat seen [] sorted unseen = refl
no_repeat seen (e ∷ es) sorted unseen =
    let both = and_parts (below_all key_cmp e.0 es) (is_sorted key_cmp es) sorted in
    (λ i. option_or (unless (not (unseen.0 i)) (Exists e.0))
    (no_repeat (e.0 ∷ seen) es both.1 (unseen_more e.0 seen es both.0 unseen.1) i))

none_seen : (es : Entries) → AllByRecursion (λ e. has [] e.0 ≡ false) es
none_seen [] = tt
none_seen (e ∷ es) = (refl, none_seen es)

module _ (l : Limits) (c : Configuration) (well : IsWellKept l c) where
  -- a key with none is no port's within the limits
  absent_port : (k : Key) → get c k ≡ None → (n : ℕ) → 1 ≤ n → n ≤ l.ports → same_key k (Port n) ≡ false
  absent_port k none n low high = by_bool (same_key k (Port n))
      (λ same. let there : is_some (get c k) ≡ true = ap (λ q. is_some (get c q)) (one_key k (Port n) same) ∙ well.ports n low high in
      let never : is_some (get c k) ≡ false = ap is_some none in absurd (cc))
      (λ other. other)

  -- a record that no setup names is the default one, at a port
  unnamed : (k : Key) (r : Record) → get c k ≡ Some r → is_default r ≡ true → find key_cmp k (default_ports l.ports) ≡ Some r
  unnamed k r is default = at k r (well.within k r is).0 (well.within k r is).1 default
    where
      at : (k : Key) (r : Record) → HoldsKey l k → HoldsRecord l k r → is_default r ≡ true
          → find key_cmp k (default_ports l.ports) ≡ Some r
      at (Port n) (records.Port p) key holds default = default_found n l.ports key.0 key.1 ∙ ap Some (sym (default_is p default))
      at (Filter n) (records.Filter r) key holds default = absurd (cc)
      at (Gate n) (records.Gate r) key holds default = absurd (cc)
      at (Meter n) (records.Meter r) key holds default = absurd (cc)
      at k r key holds default = absurd holds

  there : (k : Key) (o : Option Record) → get c k ≡ o → option_or (kept is_named k o) (find key_cmp k (default_ports l.ports)) ≡ o
  there k None none = absent k l.ports (absent_port k none)
  there k (Some r) is = by_bool (is_default r)
      (λ default. ap (λ b. option_or (cond (not b) (Some r) None) (find key_cmp k (default_ports l.ports))) default ∙ unnamed k r is
      default)
      (λ other. ap (λ b. option_or (cond (not b) (Some r) None) (find key_cmp k (default_ports l.ports))) other)

  pub opens : opening l (named c) ≡ c
  opens = same_configuration (opening l (named c)) c (λ k.
      get-from_entries keys_total (named c ++ default_ports l.ports) k
      ∙ find_append k (named c) (default_ports l.ports)
      ∙ ap (λ o. option_or o (find key_cmp k (default_ports l.ports))) (named_found c k)
      ∙ there k (get c k) refl)

  each_entry : (P : Key × Record → Type 0) → ((k : Key) (r : Record) → get c k ≡ Some r → P (k, r)) → AllByRecursion P (entries c)
  each_entry P holds = each_moved (λ e. get c e.0 ≡ Some e.1) P (λ e is. holds e.0 e.1 is) (entries c) (each_stands c)

  within : (k : Key) (r : Record) → get c k ≡ Some r → limit_cause l (k, r) ≡ None
  within k r is =
      let holds = well.within k r is in
      (λ i. option_or (unless (test_holds l k holds.0 i) (Range IdField))
      (no_limits l c well k r holds.1 (λ q ref. well.referred k r q is ref) i))

  refers : (k : Key) (r : Record) → get c k ≡ Some r → dangling c r ≡ None
  refers k r is = no_cause (λ q. is_some (get c q)) Dangling (refs r) (λ q ref. well.referred k r q is ref)

  no_limit : limits_cause l (named c) ≡ None
  no_limit = no_first_cause (limit_cause l) (named c)
      (named_each (λ e. limit_cause l e ≡ None) c (each_entry (λ e. limit_cause l e ≡ None) within))

  no_dangling : dangling_cause (opening l (named c)) ≡ None
  no_dangling = ap dangling_cause opens ∙ no_first_cause (λ e. dangling c e.1) (entries c)
      (each_entry (λ e. dangling c e.1 ≡ None) refers)

  pub unrefused : opening_refusal l (named c) ≡ None
  unrefused = (λ i. option_or (no_limit i) (option_or (no_repeat [] (named c) (named_sorted c) (none_seen (named c)) i)
      (option_or (no_dangling i) None)))

  pub right_kinds : AreOfKind (named c)
  right_kinds = named_each (λ e. is_of_kind e.0 e.1 ≡ true) c
      (each_entry (λ e. is_of_kind e.0 e.1 ≡ true) (λ k r is. right_kind l k r (well.within k r is).1))

  pub in_ranges : RecordsInRange (named c)
  in_ranges = named_each (λ e. RecordInRange e.1) c (each_entry (λ e. RecordInRange e.1) well.in_range)

  pub keyed_in_range : AllByRecursion (λ e. KeyedInRange e.0 e.1) (named c)
  keyed_in_range = named_each (λ e. KeyedInRange e.0 e.1) c
      (each_entry (λ e. KeyedInRange e.0 e.1) (λ k r is. kept_in_range l c k r well is))
