-- One key with a value or none: what keeps a well kept map well kept, and what the tests of limits and references come to.
use Rattle.std.proofs.Common.{◌≡◌, ℕ, true, false, cond, ◌||◌, not, List, [], ◌∷◌, ◌++◌, refl, sym, ◌∙◌, ap, subst, Option, Some, None, map, arith, rules}
use Rattle.std.specs.Prelude.{find, IsSome, is_some, option_map}
use Rattle.std.specs.FinMap.{get, find as find_entry}
use Rattle.std.specs.Option.{option_or}
use Rattle.tsn_types.specs.declared.keys.Key.{Key}
use Rattle.tsn_types.specs.declared.keys.Key.TheVariants.{Port}
use Rattle.tsn_types.specs.declared.records.Record.{Record}
use Rattle.tsn_types.specs.declared.limits.Limits.{Limits}
use Rattle.tsn_types.specs.declared.refusals.Refusal.{Refusal}
use Rattle.tsn_types.specs.declared.refusals.Refusal.TheVariants.{Dangling}
use Rattle.tsn_types.specs.InRange.{RecordInRange}
use Rattle.tsn_types.specs.Keys.{key_cmp, same_key, has, refs}
use Rattle.tsn_edit.specs.Configuration.{Configuration, put, IsWellKept}
use Rattle.tsn_types.specs.Limits.{HoldsKey, HoldsRecord, unless, first_cause, holds_key, out_of_limits}
use Rattle.tsn_edit.specs.Edits.{is_of_kind, is_port, dangling, limit_causes}
use Rattle.tsn_edit.proofs.KeyFacts.{by_bool, get-put, one_key}
use Rattle.tsn_types.proofs.Causes.{first_cause-append, option_or_parts, unless-None}
use Rattle.tsn_config.specs.Views.{ConfigView}

pub HoldsKey-from_test : (l : Limits) (k : Key) → holds_key l k ≡ true → HoldsKey l k
HoldsKey-from_test l k h = grind arith

pub HoldsRecord-from_test : (l : Limits) (k : Key) (r : Record) → is_of_kind k r ≡ true → out_of_limits l r ≡ None → HoldsRecord l k r
HoldsRecord-from_test l k r h o = grind arith

pub none_dangling : (c : Configuration) (ks : List Key) → first_cause (map (λ q. unless (is_some (get c q)) (Dangling q)) ks) ≡ None
    → (q : Key) → has ks q ≡ true → IsSome (get c q)
none_dangling c [] h q in' = (cc)
none_dangling c (k ∷ ks) h q in' =
    elim (same_key q k) as (λ b. same_key q k ≡ b → (b || has ks q) ≡ true → IsSome (get c q)) [
      | true ↦ λ same _. ap (λ k. is_some (get c k)) (one_key q k same)
          ∙ unless-None (is_some (get c k)) (Dangling k) ((option_or_parts _ _ h).0)
      | false ↦ λ _ rest. none_dangling c ks ((option_or_parts _ _ h).1) q rest
    ] refl in'

pub map_none : {A B : Type 0} (f : A → B) (o : Option A) → option_map f o ≡ None → o ≡ None
map_none f o h = grind arith

pub none_refers : (k : Key) (es : List (Key × Record)) → find (λ e. has (refs e.1) k) es ≡ None → (q : Key) (r : Record)
    → find_entry key_cmp q es ≡ Some r → has (refs r) k ≡ false
none_refers k [] h q r is = (cc)
none_refers k (e ∷ es) h q r is =
    elim (has (refs e.1) k) as (λ b. has (refs e.1) k ≡ b → cond b (Some e) (find (λ e. has (refs e.1) k) es) ≡ None → has (refs r) k
    ≡ false) [
      | true ↦ λ _ no. (cc)
      | false ↦ λ not_here no.
          elim (same_key q e.0) as (λ b. cond b (Some e.1) (find_entry key_cmp q es) ≡ Some r → has (refs r) k ≡ false) [
            | true ↦ λ this. let same : e.1 ≡ r = (cc) in ap (λ r. has (refs r) k) (sym same) ∙ not_here
            | false ↦ λ more. none_refers k es no q r more
          ] is
    ] refl h

module _ (l : Limits) (c : Configuration) (kept : IsWellKept l c) where
  still_some : (k : Key) (r : Record) (q : Key) → IsSome (get c q) → IsSome (get (put c k (Some r)) q)
  still_some k r q h = ap is_some (get-put c k (Some r) q) ∙ elim (same_key q k) as (λ b. is_some (cond b (Some r) (get c q)) ≡ true)
      [ true ↦ refl | false ↦ h ]

  put_kept : (k : Key) (r : Record) → RecordInRange r → HoldsKey l k → HoldsRecord l k r
      → ((q : Key) → has (refs r) q ≡ true → IsSome (get c q)) → IsWellKept l (put c k (Some r))
  put_kept k r ranges holds_k holds_r there = record {
    limits = kept.limits;
    in_range = λ q s is. by_bool (same_key q k)
        (λ same. let now : r ≡ s = (let e : Some r ≡ Some s = sym (get-put c k (Some r) q ∙ ap (λ b. cond b (Some r) (get c q)) same)
        ∙ is in (cc)) in
        subst (λ (x : Record). RecordInRange x) now ranges)
        (λ other. kept.in_range q s (sym (get-put c k (Some r) q ∙ ap (λ b. cond b (Some r) (get c q)) other) ∙ is));
    within = λ q s is. by_bool (same_key q k)
        (λ same. let now : r ≡ s = (let e : Some r ≡ Some s = sym (get-put c k (Some r) q ∙ ap (λ b. cond b (Some r) (get c q)) same)
        ∙ is in (cc)) in (
          subst (λ x. HoldsKey l x) (sym (one_key q k same)) holds_k,
          subst (λ (p : Key × Record). HoldsRecord l p.0 p.1) (λ i. (sym (one_key q k same) i, now i)) holds_r,
        ))
        (λ other. kept.within q s (sym (get-put c k (Some r) q ∙ ap (λ b. cond b (Some r) (get c q)) other) ∙ is));
    ports = λ n low high. still_some k r (Port n) (kept.ports n low high);
    referred = λ q s t is ref. still_some k r t (by_bool (same_key q k)
        (λ same. let now : r ≡ s = (let e : Some r ≡ Some s = sym (get-put c k (Some r) q ∙ ap (λ b. cond b (Some r) (get c q)) same)
        ∙ is in (cc)) in
        there t (ap (λ x. has (refs x) t) now ∙ ref))
        (λ other. kept.referred q s t (sym (get-put c k (Some r) q ∙ ap (λ b. cond b (Some r) (get c q)) other) ∙ is) ref));
  }

  gone : (k : Key) (q : Key) (s : Record) → get (put c k None) q ≡ Some s → (same_key q k ≡ false) × (get c q ≡ Some s)
  gone k q s is = by_bool (same_key q k)
      (λ same. let e : None ≡ Some s = sym (get-put c k None q ∙ ap (λ b. cond b None (get c q)) same) ∙ is in (cc))
      (λ other. (other, sym (get-put c k None q ∙ ap (λ b. cond b None (get c q)) other) ∙ is))

  stays : (k q : Key) → same_key q k ≡ false → IsSome (get c q) → IsSome (get (put c k None) q)
  stays k q other h = ap is_some (get-put c k None q ∙ ap (λ b. cond b None (get c q)) other) ∙ h

  not_port : (k : Key) (n : ℕ) → not (is_port k) ≡ true → same_key (Port n) k ≡ false
  not_port k n h = grind arith

  pub remove_kept : (k : Key) → not (is_port k) ≡ true → ((q : Key) (r : Record) → get c q ≡ Some r → has (refs r) k ≡ false)
      → IsWellKept l (put c k None)
  remove_kept k no_port free = record {
    limits = kept.limits;
    in_range = λ q s is. kept.in_range q s (gone k q s is).1;
    within = λ q s is. kept.within q s (gone k q s is).1;
    ports = λ n low high. stays k (Port n) (not_port k n no_port) (kept.ports n low high);
    referred = λ q s t is ref.
        let before = (gone k q s is).1 in
        stays k t (by_bool (same_key t k)
        (λ same. let a : has (refs s) t ≡ false = ap (has (refs s)) (one_key t k same) ∙ free q s before in (cc)) (λ h. h))
        (kept.referred q s t before ref);
  }

  pub fits_put : (k : Key) (r : Record) → RecordInRange r → is_of_kind k r ≡ true → holds_key l k ≡ true → out_of_limits l r ≡ None
      → dangling c r ≡ None → IsWellKept l (put c k (Some r))
  fits_put k r ranges kind in_limits fields there = search (rules, put_kept, HoldsKey-from_test, HoldsRecord-from_test, none_dangling)

-- what the limits refuse is told before all later causes
pub limits_first : (seen now : ConfigView) (k : Key) (r : Record) (why : Refusal) (late : List (Option Refusal)) → seen ≡ now
    → first_cause (limit_causes seen.limits k r) ≡ Some why → Some why ≡ first_cause (limit_causes now.limits k r ++ late)
limits_first seen now k r why late is first =
    sym (first_cause-append (limit_causes now.limits k r) late
    ∙ ap (λ o. option_or o (first_cause late)) (ap (λ (s : ConfigView). first_cause (limit_causes s.limits k r)) (sym is) ∙ first))
