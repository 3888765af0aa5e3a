-- Several parts keep a well kept map well kept just where each of them does, seen with the others.
use Rattle.std.proofs.Common.{◌≡◌, Bool, true, false, cond, not, List, [], ◌∷◌, ◌&&◌, ◌||◌, refl, sym, ◌∙◌, ap, subst, Option, Some, None, arith}
use Rattle.std.specs.Prelude.{find, IfSome, IsSome, is_some, is_none, option_map}
use Rattle.std.specs.List.{AllByRecursion, IsDistinct, list_all}
use Rattle.std.specs.FinMap.{get, entries, entries_sorted, get-entries, find as find_entry}
use Rattle.std.specs.Bool.{Decides}
use Rattle.std.proofs.lemmas.Bool.{and_from, and_parts}
use Rattle.tsn_table.proofs.Orders.{of_T}
use Rattle.tsn_types.specs.declared.keys.Key.{Key}
use Rattle.tsn_types.specs.declared.keys.Key.TheVariants.{Port, Filter, Gate, Meter}
use Rattle.tsn_types.specs.declared.refusals.Refusal.TheVariants.{Dangling, Referred}
use Rattle.tsn_types.specs.declared.records.Record.{Record}
use Rattle.tsn_types.specs.declared.limits.Limits.{Limits}
use Rattle.tsn_types.specs.Keys.{key_cmp, same_key, has, refs}
use Rattle.tsn_types.specs.InRange.{RecordInRange}
use Rattle.tsn_types.specs.Limits.{HoldsKey, HoldsRecord}
use Rattle.tsn_edit.specs.Configuration.{Configuration, IsWellKept}
use Rattle.tsn_edit.specs.Parts.{Part}
use Rattle.tsn_edit.specs.Changes.{Fits, Stands, keys_of, put_all}
use Rattle.tsn_edit.specs.Edits.{is_port}
use Rattle.tsn_edit.proofs.Inverses.{each_weaker, not_again}
use Rattle.tsn_edit.proofs.KeyFacts.{after_or, by_bool, by_option, each_part, get-put_all, one_key, part_on, part_on_none, part_on_some, same_itself}
use Rattle.tsn_types.proofs.Causes.{each_none, unless-None}
use Rattle.tsn_config.specs.Keeping.{keep_together, keeps_part, keeps_value, referrer_beside}
use Rattle.tsn_config.specs.Kinds.{AreOfKinds}
use Rattle.tsn_config.specs.Ways.{AreInRange}
use Rattle.tsn_config.proofs.Deciding.{found, no_cause, no_limits, none_of, of_kind, test_holds}
use Rattle.tsn_config.proofs.Edits.{map_none, none_dangling}
use Rattle.tsn_config.proofs.SetRows.{IsOfKind}

-- a key with no part is none of theirs
pub no_key : (k : Key) (ps : List Part) → part_on k ps ≡ None → has (keys_of ps) k ≡ false
unfolding part_on
no_key k [] h = refl
no_key k (p ∷ ps) h =
    elim (same_key k p.key) as (λ b. cond b (Some p) (part_on k ps) ≡ None → (b || has (keys_of ps) k) ≡ false) [
      | true ↦ λ none. (cc)
      | false ↦ λ none. no_key k ps none
    ] h

-- of parts on distinct keys each is the one on its key
pub each_own : (ps : List Part) → IsDistinct same_key (keys_of ps) → AllByRecursion (λ p. part_on p.key ps ≡ Some p) ps
unfolding IsDistinct part_on
each_own [] d = tt
each_own (p ∷ ps) d = (
  ap (λ b. cond b (Some p) (part_on p.key ps)) (same_itself p.key),
  each_weaker (λ x. part_on x.key ps ≡ Some x) (λ x. part_on x.key (p ∷ ps) ≡ Some x)
      (λ x is. ap (λ b. cond b (Some p) (part_on x.key ps)) (not_again p.key (keys_of ps) d.0 x.key (part_on_some x.key ps x is).there)
      ∙ is)
      ps (each_own ps d.1),
)

pub each_both : {A : Type 0} (P Q R : A → Type 0) → ((x : A) → P x → Q x → R x) → (xs : List A) → AllByRecursion P xs → AllByRecursion Q xs
    → AllByRecursion R xs
each_both P Q R f [] g h = tt
each_both P Q R f (x ∷ xs) g h = (f x g.0 h.0, each_both P Q R f xs g.1 h.1)

pub each_passes : {A : Type 0} (t : A → Bool) (xs : List A) → list_all t xs ≡ true → AllByRecursion (λ x. t x ≡ true) xs
each_passes t [] h = tt
each_passes t (x ∷ xs) h = let both = and_parts (t x) (list_all t xs) h in (both.0, each_passes t xs both.1)

pub all_pass : {A : Type 0} (t : A → Bool) (xs : List A) → AllByRecursion (λ x. t x ≡ true) xs → list_all t xs ≡ true
all_pass t [] h = refl
all_pass t (x ∷ xs) h = and_from (t x) (list_all t xs) h.0 (all_pass t xs h.1)

-- where a test finds nothing, no entry passes it
pub none_found : (t : Key × Record → Bool) (es : List (Key × Record)) → find t es ≡ None → (q : Key) (r : Record)
    → find_entry key_cmp q es ≡ Some r → t (q, r) ≡ false
none_found t [] h q r is = (cc)
none_found t (e ∷ es) h q r is = by_bool (t e)
    (λ yes. let never : Some e ≡ None = sym (ap (λ b. cond b (Some e) (find t es)) yes) ∙ h in (cc))
    (λ no.
    let rest : find t es ≡ None = sym (ap (λ b. cond b (Some e) (find t es)) no) ∙ h in
    by_bool (same_key q e.0)
    (λ same.
    let value : e.1 ≡ r = (let this : Some e.1 ≡ Some r = sym (ap (λ b. cond b (Some e.1) (find_entry key_cmp q es)) same) ∙ is in (cc)) in
    ap (λ k. t (k, r)) (one_key q e.0 same) ∙ ap (λ r. t (e.0, r)) (sym value) ∙ no)
    (λ other. none_found t es rest q r (sym (ap (λ b. cond b (Some e.1) (find_entry key_cmp q es)) other) ∙ is)))

-- a value after that may stand at its key, or none, among the changed keys ks
abbrev pub IsSound : Limits → List Key → Configuration → Configuration → Key → Option Record → Option Record → Type 0
IsSound l ks c d k b (Some r) = RecordInRange r × HoldsKey l k × HoldsRecord l k r × ((q : Key) → has (refs r) q ≡ true → IsSome (get d q))
IsSound l ks c d k b None =
    IsSome b → (not (is_port k) ≡ true) × ((q : Key) (r : Record) → has ks q ≡ false → get c q ≡ Some r → has (refs r) k ≡ false)

abbrev pub AreSound : Limits → Configuration → List Part → Type 0
AreSound l c ps = AllByRecursion (λ p. IsSound l (keys_of ps) c (put_all c ps) p.key p.before p.after) ps

pub beside_none : (ks : List Key) (c : Configuration) (k : Key) → referrer_beside ks c k ≡ None → (q : Key) (r : Record) → has ks q ≡ false
    → get c q ≡ Some r → has (refs r) k ≡ false
beside_none ks c k h q r off is =
    let fails : (has (refs r) k && not (has ks q)) ≡ false = none_found (λ e. has (refs e.1) k && not (has ks e.0)) (entries c)
    (map_none (λ e. Referred e.0) _ h) q r (sym (get-entries c q) ∙ is) in
    by_bool (has (refs r) k)
    (λ yes. let never : true ≡ false = sym (ap not off) ∙ sym (ap (λ b. b && not (has ks q)) yes) ∙ fails in (cc))
    (λ no. no)

-- the test answers true only for sound values
pub sound_from : (l : Limits) (ks : List Key) (c d : Configuration) (k : Key) (b v : Option Record) → IfSome v RecordInRange
    → keeps_value l ks c d k b v ≡ true → IsSound l ks c d k b v
sound_from l ks c d k b v ranges h = grind (arith, each_none, none_of, and_parts, unless-None, none_dangling, beside_none)

module _ (l : Limits) (c : Configuration) (kept : IsWellKept l c) (ps : List Part) where
  at : (q : Key) (p : Part) → part_on q ps ≡ Some p → get (put_all c ps) q ≡ p.after
  at q p is = get-put_all c ps q ∙ ap (λ o. after_or o (get c q)) is

  same_at : (q : Key) → part_on q ps ≡ None → get (put_all c ps) q ≡ get c q
  same_at q none = get-put_all c ps q ∙ ap (λ o. after_or o (get c q)) none

  module _ (stands : Stands c ps) (sound : AreSound l c ps) where
    stood : (q : Key) (p : Part) → part_on q ps ≡ Some p → get c q ≡ p.before
    stood q p is = ap (get c) (part_on_some q ps p is).key ∙ each_part (λ p. get c p.key ≡ p.before) q ps p is stands

    sound_of : (q : Key) (p : Part) (v : Option Record) → part_on q ps ≡ Some p → p.after ≡ v
        → IsSound l (keys_of ps) c (put_all c ps) q p.before v
    sound_of q p v is after =
        subst (λ v. IsSound l (keys_of ps) c (put_all c ps) q p.before v) after
        (subst (λ k. IsSound l (keys_of ps) c (put_all c ps) k p.before p.after) (sym (part_on_some q ps p is).key)
        (each_part (λ p. IsSound l (keys_of ps) c (put_all c ps) p.key p.before p.after) q ps p is sound))

    sound_at : (q : Key) (p : Part) (r : Record) → part_on q ps ≡ Some p → get (put_all c ps) q ≡ Some r
        → IsSound l (keys_of ps) c (put_all c ps) q p.before (Some r)
    sound_at q p r is now = sound_of q p (Some r) is (sym (at q p is) ∙ now)

    -- a key that was there is there, or went soundly
    stays : (q : Key) (p : Part) → part_on q ps ≡ Some p → IsSome (get c q)
        → ((not (is_port q) ≡ true) × ((k : Key) (r : Record) → has (keys_of ps) k ≡ false → get c k ≡ Some r → has (refs r) q ≡ false) → ⊥)
        → IsSome (get (put_all c ps) q)
    stays q p is was never = by_option p.after
        (λ gone. absurd (never (sound_of q p None is gone (ap is_some (sym (stood q p is)) ∙ was))))
        (λ r some. ap is_some (at q p is ∙ some))

    referred_still : (k : Key) (r : Record) (q : Key) → part_on k ps ≡ None → get c k ≡ Some r → has (refs r) q ≡ true
        → IsSome (get (put_all c ps) q)
    referred_still k r q none old ref = by_option (part_on q ps)
        (λ untouched. ap is_some (same_at q untouched) ∙ kept.referred k r q old ref)
        (λ p is. stays q p is (kept.referred k r q old ref)
        (λ free. let no : has (refs r) q ≡ false = free.1 k r (no_key k ps none) old in absurd (cc)))

    pub kept_together : IsWellKept l (put_all c ps)
    kept_together = record {
      limits = kept.limits;
      in_range = λ q r is. by_option (part_on q ps)
          (λ none. kept.in_range q r (sym (same_at q none) ∙ is))
          (λ p on. (sound_at q p r on is).0);
      within = λ q r is. by_option (part_on q ps)
          (λ none. kept.within q r (sym (same_at q none) ∙ is))
          (λ p on. let s = sound_at q p r on is in (s.1, s.2));
      ports = λ n low high. by_option (part_on (Port n) ps)
          (λ none. ap is_some (same_at (Port n) none) ∙ kept.ports n low high)
          (λ p on. stays (Port n) p on (kept.ports n low high) (λ free. let no : false ≡ true = free.0 in absurd (cc)));
      referred = λ k r q is ref. by_option (part_on k ps)
          (λ none. referred_still k r q none (sym (same_at k none) ∙ is) ref)
          (λ p on. (sound_at k p r on is).3 q ref);
    }

  module _ (after : IsWellKept l (put_all c ps)) where
    never_gone : {G : Type 0} (k : Key) → get (put_all c ps) k ≡ None → IsSome (get (put_all c ps) k) → G
    never_gone k gone some = let never : false ≡ true = sym (ap is_some gone) ∙ some in absurd (cc)

    no_port : (k : Key) (s : Record) → get c k ≡ Some s → get (put_all c ps) k ≡ None → not (is_port k) ≡ true
    no_port (Port n) s is gone = let h = (kept.within (Port n) s is).0 in never_gone (Port n) gone (after.ports n h.0 h.1)
    no_port (Filter n) s is gone = refl
    no_port (Gate n) s is gone = refl
    no_port (Meter n) s is gone = refl

    none_beside : (k : Key) → get (put_all c ps) k ≡ None → referrer_beside (keys_of ps) c k ≡ None
    none_beside k gone = by_option (find (λ e. has (refs e.1) k && not (has (keys_of ps) e.0)) (entries c))
        (λ none. ap (option_map (λ e. Referred e.0)) none)
        (λ e is.
        let at_e = found (λ e. has (refs e.1) k && not (has (keys_of ps) e.0)) (entries c) (of_T _ (entries_sorted c)) e is in
        let both = and_parts (has (refs e.1) k) (not (has (keys_of ps) e.0)) at_e.0 in
        let stays_e : get (put_all c ps) e.0 ≡ Some e.1 = same_at e.0 (not_on e.0 both.1) ∙ get-entries c e.0 ∙ at_e.1 in
        never_gone k gone (after.referred e.0 e.1 k stays_e both.0))
      where
        not_on : (q : Key) → not (has (keys_of ps) q) ≡ true → part_on q ps ≡ None
        not_on q h = by_bool (has (keys_of ps) q) (λ yes. let never : false ≡ true = sym (ap not yes) ∙ h in
            absurd (cc)) (λ no. part_on_none q ps no)

    passes : (k : Key) (b v : Option Record) → get c k ≡ b → get (put_all c ps) k ≡ v
        → keeps_value l (keys_of ps) c (put_all c ps) k b v ≡ true
    passes k b (Some r) was now =
        let h = after.within k r now in
        let there : (q : Key) → has (refs r) q ≡ true → IsSome (get (put_all c ps) q) = λ q ref. after.referred k r q now ref in
        rw (
          of_kind l k r h.1,
          test_holds l k h.0,
          no_limits l (put_all c ps) after k r h.1 there,
          no_cause (λ q. is_some (get (put_all c ps) q)) Dangling (refs r) there,
        ) refl
    passes k None None was now = refl
    passes k (Some s) None was now = and_from _ _ (no_port k s was now) (ap is_none (none_beside k now))

    kind_of_value : (k : Key) (v : Option Record) → get (put_all c ps) k ≡ v → IsOfKind k v
    kind_of_value k None now = tt
    kind_of_value k (Some r) now = of_kind l k r (after.within k r now).1

  -- where the values before stand, the test decides whether the map after is well kept
  pub together_decides : IsDistinct same_key (keys_of ps) → Stands c ps → AreInRange ps
      → Decides (keep_together l c ps) (IsWellKept l (put_all c ps))
  together_decides distinct stands ranges = (
    λ h. kept_together stands
        (each_both (λ p. IfSome p.after RecordInRange) (λ p. keeps_part l c ps p ≡ true)
        (λ p. IsSound l (keys_of ps) c (put_all c ps) p.key p.before p.after)
        (λ p r t. sound_from l (keys_of ps) c (put_all c ps) p.key p.before p.after r t) ps ranges (each_passes (keeps_part l c ps) ps h)),
    λ after. all_pass (keeps_part l c ps) ps
        (each_both (λ p. part_on p.key ps ≡ Some p) (λ p. get c p.key ≡ p.before) (λ p. keeps_part l c ps p ≡ true)
        (λ p own was. passes after p.key p.before p.after was (at p.key p own)) ps (each_own ps distinct) stands),
  )

  pub fits_together : IsDistinct same_key (keys_of ps) → Stands c ps → AreInRange ps → Decides (keep_together l c ps) (Fits l c ps)
  fits_together distinct stands ranges = grind (arith, together_decides)

  -- the values after of a change that fits are of their keys' kinds
  pub after_kinds : Fits l c ps → AreOfKinds ps
  after_kinds fits =
      each_weaker (λ p. part_on p.key ps ≡ Some p) (λ p. IsOfKind p.key p.after)
      (λ p own. kind_of_value fits.kept p.key p.after (at p.key p own)) ps (each_own ps fits.distinct)
