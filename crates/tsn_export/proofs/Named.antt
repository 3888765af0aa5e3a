-- The records that a setup names are the entries but for the ports that are as no setup names them, in the order of keys.
use Rattle.std.proofs.Common.{◌≡◌, ◌<◌, ℕ, arith, Bool, true, false, cond, ◌&&◌, not, [], ◌∷◌, ◌++◌, refl, sym, ◌∙◌, ap, subst, Option, Some, None}
use Rattle.std.specs.Prelude.{filter}
use Rattle.std.specs.FinMap.{entries, entries_sorted, find, get, get-entries, is_sorted}
use Rattle.std.specs.FinMap.Entries.{below_all}
use Rattle.std.specs.List.{AllByRecursion}
use Rattle.std.specs.Ordering.{is_lt}
use Rattle.std.proofs.lemmas.Bool.{and_from, and_parts}
use Rattle.tsn_table.proofs.Orders.{of_T}
use Rattle.tsn_types.specs.declared.keys.Key.{Key}
use Rattle.tsn_types.specs.declared.keys.Key.TheVariants.{Port, Filter, Gate, Meter}
use Rattle.tsn_types.specs.declared.keys.Kind.{Kind}
use Rattle.tsn_types.specs.declared.keys.Kind.TheVariants as kinds
use Rattle.tsn_types.specs.declared.records.Record.{Record}
use Rattle.tsn_types.specs.Keys.{key_cmp, kind_of, same_key}
use Rattle.tsn_edit.specs.Configuration.{Configuration}
use Rattle.tsn_edit.proofs.KeyFacts.{by_bool, one_key, same_itself}
use Rattle.tsn_config.specs.Ids.{is_of}
use Rattle.tsn_config.proofs.Deciding.{find_above}
use Rattle.tsn_export.specs.Text.{is_default, named, named_of}
use Rattle.tsn_export.specs.Going.{Entries, of_kind}

-- ---- what a test keeps of entries in the order of keys

-- the record of a key, if it passes
abbrev pub kept : (Key × Record → Bool) → Key → Option Record → Option Record
kept p k None = None
kept p k (Some r) = cond (p (k, r)) (Some r) None

module _ (p : Key × Record → Bool) where
  below_kept : (k : Key) (es : Entries) → below_all key_cmp k es ≡ true → below_all key_cmp k (filter p es) ≡ true
  below_kept k [] below = refl
  below_kept k (e ∷ es) below =
      let both = and_parts (is_lt (key_cmp k e.0)) (below_all key_cmp k es) below in
      elim (p e) as (λ b. below_all key_cmp k (cond b (e ∷ filter p es) (filter p es)) ≡ true) [
        | true ↦ and_from _ _ both.0 (below_kept k es both.1)
        | false ↦ below_kept k es both.1
      ]

  pub sorted_kept : (es : Entries) → is_sorted key_cmp es ≡ true → is_sorted key_cmp (filter p es) ≡ true
  sorted_kept [] sorted = refl
  sorted_kept (e ∷ es) sorted =
      let both = and_parts (below_all key_cmp e.0 es) (is_sorted key_cmp es) sorted in
      elim (p e) as (λ b. is_sorted key_cmp (cond b (e ∷ filter p es) (filter p es)) ≡ true) [
        | true ↦ and_from _ _ (below_kept e.0 es both.0) (sorted_kept es both.1)
        | false ↦ sorted_kept es both.1
      ]

  found_first : (e : Key × Record) (es : Entries) → below_all key_cmp e.0 es ≡ true
      → find key_cmp e.0 (filter p (e ∷ es)) ≡ kept p e.0 (find key_cmp e.0 (e ∷ es))
  found_first e es below =
      elim (p e) as (λ b. find key_cmp e.0 (cond b (e ∷ filter p es) (filter p es)) ≡ cond b (Some e.1) None) [
        | true ↦ ap (λ b. cond b (Some e.1) (find key_cmp e.0 (filter p es))) (same_itself e.0)
        | false ↦ find_above e.0 (filter p es) (below_kept e.0 es below)
      ]
      ∙ sym (ap (λ b. kept p e.0 (cond b (Some e.1) (find key_cmp e.0 es))) (same_itself e.0))

  pub found_kept : (k : Key) (es : Entries) → is_sorted key_cmp es ≡ true → find key_cmp k (filter p es) ≡ kept p k (find key_cmp k es)
  found_kept k [] sorted = refl
  found_kept k (e ∷ es) sorted =
      let both = and_parts (below_all key_cmp e.0 es) (is_sorted key_cmp es) sorted in
      by_bool (same_key k e.0)
      (λ same. subst (λ q. find key_cmp q (filter p (e ∷ es)) ≡ kept p q (find key_cmp q (e ∷ es))) (sym (one_key k e.0 same))
      (found_first e es both.0))
      (λ other.
      elim (p e) as (λ b. find key_cmp k (cond b (e ∷ filter p es) (filter p es)) ≡ find key_cmp k (filter p es)) [
        | true ↦ ap (λ b. cond b (Some e.1) (find key_cmp k (filter p es))) other
        | false ↦ refl
      ]
      ∙ found_kept k es both.1
      ∙ sym (ap (λ b. kept p k (cond b (Some e.1) (find key_cmp k es))) other))

  pub each_kept : (P : Key × Record → Type 0) (es : Entries) → AllByRecursion P es → AllByRecursion P (filter p es)
  each_kept P [] each = tt
  each_kept P (e ∷ es) each =
      elim (p e) as (λ b. AllByRecursion P (cond b (e ∷ filter p es) (filter p es))) [
        | true ↦ (each.0, each_kept P es each.1)
        | false ↦ each_kept P es each.1
      ]

-- one test behind another is both
kept_twice : (p q : Key × Record → Bool) (es : Entries) → filter p (filter q es) ≡ filter (λ e. p e && q e) es
kept_twice p q [] = refl
kept_twice p q (e ∷ es) =
    elim (q e) as (λ b. filter p (cond b (e ∷ filter q es) (filter q es)) ≡ cond (p e && b) (e ∷ filter (λ e. p e && q e) es)
    (filter (λ e. p e && q e) es)) [
      | true ↦ elim (p e) as (λ b. cond b (e ∷ filter p (filter q es)) (filter p (filter q es)) ≡ cond (b && true)
          (e ∷ filter (λ e. p e && q e) es) (filter (λ e. p e && q e) es)) [
            | true ↦ ap (λ t. e ∷ t) (kept_twice p q es)
            | false ↦ kept_twice p q es
          ]
      | false ↦ elim (p e) as (λ b. filter p (filter q es) ≡ cond (b && false) (e ∷ filter (λ e. p e && q e) es)
          (filter (λ e. p e && q e) es)) [ true ↦ kept_twice p q es | false ↦ kept_twice p q es ]
    ]

-- ---- entries in the order of keys stand kind by kind

-- no key is below one of an earlier kind
not_above : (k q : Key) → kind_of q < kind_of k → is_lt (key_cmp k q) ≡ false
not_above (Filter n) (Port m) lesser = refl
not_above (Gate n) (Port m) lesser = refl
not_above (Gate n) (Filter m) lesser = refl
not_above (Meter n) (Port m) lesser = refl
not_above (Meter n) (Filter m) lesser = refl
not_above (Meter n) (Gate m) lesser = refl
not_above k q lesser = absurd (omega (arith, lesser))

place : Kind → ℕ
place kinds.Port = 0
place kinds.Filter = 1
place kinds.Gate = 2
place kinds.Meter = 3

placed : (which : Kind) (k : Key) → is_of which k ≡ true → kind_of k ≡ place which
unfolding place
placed kinds.Port (Port n) is = refl
placed kinds.Filter (Filter n) is = refl
placed kinds.Gate (Gate n) is = refl
placed kinds.Meter (Meter n) is = refl
placed which k is = absurd (cc)

none_above : (which : Kind) (k : Key) (es : Entries) → place which < kind_of k → below_all key_cmp k es ≡ true → of_kind which es ≡ []
none_above which k [] lesser below = refl
none_above which k (e ∷ es) lesser below =
    let both = and_parts (is_lt (key_cmp k e.0)) (below_all key_cmp k es) below in
    by_bool (is_of which e.0)
    (λ yes. let same = placed which e.0 yes in
    let never = not_above k e.0 (omega arith) in absurd (cc (both.0, never)))
    (λ no. ap (λ b. cond b (e ∷ of_kind which es) (of_kind which es)) no ∙ none_above which k es lesser both.1)

-- the kinds one behind another
abbrev in_kinds : Entries → Entries → Entries → Entries → Entries
in_kinds ps fs gs ms = ps ++ fs ++ gs ++ ms

behind_ports : (e : Key × Record) (ps fs gs ms : Entries) → ps ≡ [] → e ∷ in_kinds ps fs gs ms ≡ in_kinds ps (e ∷ fs) gs ms
behind_ports e [] fs gs ms none = refl
behind_ports e (p ∷ ps) fs gs ms none = absurd (cc)

behind_filters : (e : Key × Record) (ps fs gs ms : Entries) → ps ≡ [] → fs ≡ [] → e ∷ in_kinds ps fs gs ms ≡ in_kinds ps fs (e ∷ gs) ms
behind_filters e [] [] gs ms none nor = refl
behind_filters e (p ∷ ps) fs gs ms none nor = absurd (cc)
behind_filters e [] (f ∷ fs) gs ms none nor = absurd (cc)

behind_gates : (e : Key × Record) (ps fs gs ms : Entries) → ps ≡ [] → fs ≡ [] → gs ≡ []
    → e ∷ in_kinds ps fs gs ms ≡ in_kinds ps fs gs (e ∷ ms)
behind_gates e [] [] [] ms none nor either = refl
behind_gates e (p ∷ ps) fs gs ms none nor either = absurd (cc)
behind_gates e [] (f ∷ fs) gs ms none nor either = absurd (cc)
behind_gates e [] [] (g ∷ gs) ms none nor either = absurd (cc)

abbrev all_kinds : Entries → Entries
all_kinds es = in_kinds (of_kind kinds.Port es) (of_kind kinds.Filter es) (of_kind kinds.Gate es) (of_kind kinds.Meter es)

-- an entry that is below all others comes first, or behind kinds of which there is none
in_front : (k : Key) (r : Record) (es : Entries) → below_all key_cmp k es ≡ true → (k, r) ∷ all_kinds es ≡ all_kinds ((k, r) ∷ es)
unfolding place
in_front (Port n) r es below = refl
in_front (Filter n) r es below = behind_ports (Filter n, r) _ _ _ _ (none_above kinds.Port (Filter n) es (omega arith) below)
in_front (Gate n) r es below =
    behind_filters (Gate n, r) _ _ _ _ (none_above kinds.Port (Gate n) es (omega arith) below)
    (none_above kinds.Filter (Gate n) es (omega arith) below)
in_front (Meter n) r es below =
    behind_gates (Meter n, r) _ _ _ _ (none_above kinds.Port (Meter n) es (omega arith) below)
    (none_above kinds.Filter (Meter n) es (omega arith) below) (none_above kinds.Gate (Meter n) es (omega arith) below)

pub by_kinds : (es : Entries) → is_sorted key_cmp es ≡ true
    → es ≡ of_kind kinds.Port es ++ of_kind kinds.Filter es ++ of_kind kinds.Gate es ++ of_kind kinds.Meter es
by_kinds [] sorted = refl
by_kinds (e ∷ es) sorted =
    let both = and_parts (below_all key_cmp e.0 es) (is_sorted key_cmp es) sorted in
    ap (λ t. e ∷ t) (by_kinds es both.1) ∙ in_front e.0 e.1 es both.0

-- ---- the named records

abbrev pub is_named : Key × Record → Bool
is_named e = not (is_default e.1)

pub named_is : (c : Configuration) → named c ≡ filter is_named (entries c)
named_is c =
    let es : Entries = filter is_named (entries c) in
    let of : (which : Kind) → of_kind which es ≡ named_of which c = λ which. kept_twice (λ e. is_of which e.0) is_named (entries c) in
    sym (by_kinds es (sorted_kept is_named (entries c) (of_T _ (entries_sorted c))) ∙
    (λ i. in_kinds (of kinds.Port i) (of kinds.Filter i) (of kinds.Gate i) (of kinds.Meter i)))

pub named_sorted : (c : Configuration) → is_sorted key_cmp (named c) ≡ true
named_sorted c = ap (is_sorted key_cmp) (named_is c) ∙ sorted_kept is_named (entries c) (of_T _ (entries_sorted c))

pub named_found : (c : Configuration) (k : Key) → find key_cmp k (named c) ≡ kept is_named k (get c k)
named_found c k = ap (find key_cmp k) (named_is c) ∙ found_kept is_named k (entries c) (of_T _ (entries_sorted c)) ∙ ap (kept is_named k)
    (sym (get-entries c k))

pub named_each : (P : Key × Record → Type 0) (c : Configuration) → AllByRecursion P (entries c) → AllByRecursion P (named c)
named_each P c each = subst (AllByRecursion P) (sym (named_is c)) (each_kept is_named P (entries c) each)

pub named_by_kinds : (c : Configuration)
    → named c ≡ of_kind kinds.Port (named c) ++ of_kind kinds.Filter (named c) ++ of_kind kinds.Gate (named c) ++ of_kind kinds.Meter
    (named c)
named_by_kinds c = by_kinds (named c) (named_sorted c)
