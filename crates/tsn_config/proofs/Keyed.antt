-- The numbers of a kind are those of its keys, and each is in its range.
use Rattle.std.proofs.Common.{◌≡◌, ◌<◌, ℕ, length, slice_index_or, arith, true, false, List, [], ◌∷◌, map, refl, sym, ◌∙◌, ap, subst}
use Rattle.std.proofs.lemmas.Grind.{common_steps}
use Rattle.std.specs.Prelude.{◌||◌, IsSome, filter, is_some}
use Rattle.std.specs.FinMap.{get, keys, contains_key-keys}
use Rattle.std.specs.List.{AllByRecursion, list_any}
use Rattle.std.specs.Ordering.{nat_cmp, eq_by_cmp}
use Rattle.std.proofs.lemmas.Bool.{or_right}
use Rattle.tsn_types.specs.declared.keys.Key.{Key}
use Rattle.tsn_types.specs.declared.keys.Key.TheVariants.{Filter}
use Rattle.tsn_types.specs.declared.keys.Kind.{Kind}
use Rattle.tsn_types.specs.declared.limits.Limits.{Limits}
use Rattle.tsn_types.specs.Keys.{key_cmp, number_of}
use Rattle.tsn_types.specs.Limits.{HoldsKey}
use Rattle.tsn_edit.specs.Configuration.{Configuration, IsWellKept}
use Rattle.tsn_edit.proofs.KeyFacts.{by_option, same_itself}
use Rattle.tsn_config.specs.Ids.{IsNumberOf, ids_of, is_of, key_by}

-- ---- the numbers of a kind are those of its keys

one_more : (kind : Kind) (n : ℕ) (k : Key) (ks : List Key)
    → list_any (eq_by_cmp nat_cmp n) (map (λ k. number_of k) (filter (λ k. is_of kind k) ks)) ≡ list_any (eq_by_cmp key_cmp (key_by kind n))
    ks
    → list_any (eq_by_cmp nat_cmp n) (map (λ k. number_of k) (filter (λ k. is_of kind k) (k ∷ ks)))
    ≡ list_any (eq_by_cmp key_cmp (key_by kind n)) (k ∷ ks)
one_more kind n k ks h = grind arith

picked : (kind : Kind) (n : ℕ) (ks : List Key)
    → list_any (eq_by_cmp nat_cmp n) (map (λ k. number_of k) (filter (λ k. is_of kind k) ks)) ≡ list_any (eq_by_cmp key_cmp (key_by kind n))
    ks
picked kind n [] = refl
picked kind n (k ∷ ks) = one_more kind n k ks (picked kind n ks)

pub in_ids : (kind : Kind) (c : Configuration) (n : ℕ) → list_any (eq_by_cmp nat_cmp n) (ids_of kind c) ≡ is_some (get c (key_by kind n))
in_ids kind c n = picked kind n (keys c) ∙ sym (contains_key-keys c (key_by kind n))

each_in : (P : ℕ → Type 0) (ns : List ℕ) → ((n : ℕ) → list_any (eq_by_cmp nat_cmp n) ns ≡ true → P n) → AllByRecursion P ns
each_in P [] h = tt
each_in P (n ∷ ns) h = (
  h n (ap (λ b. b || list_any (eq_by_cmp nat_cmp n) ns) (same_itself (Filter n))),
  each_in P ns (λ m e. h m (or_right (eq_by_cmp nat_cmp m n) _ e)),
)

pub each_there : (kind : Kind) (c : Configuration) → AllByRecursion (λ n. IsSome (get c (key_by kind n))) (ids_of kind c)
each_there kind c = each_in (λ n. IsSome (get c (key_by kind n))) (ids_of kind c) (λ n e. sym (in_ids kind c n) ∙ e)

-- ---- the numbers of a kind are in its range

each_at : (P : ℕ → Type 0) (ns : List ℕ) (i : ℕ) → i < length ns → AllByRecursion P ns → P (slice_index_or ns i 0)
each_at P ns i h each = grind (arith, common_steps)

module _ (l : Limits) (c : Configuration) (kept : IsWellKept l c) where
  held : (kind : Kind) (n : ℕ) → HoldsKey l (key_by kind n) → IsNumberOf kind n
  held kind n h = grind arith

  there : (kind : Kind) (n : ℕ) → IsSome (get c (key_by kind n)) → IsNumberOf kind n
  there kind n h = by_option (get c (key_by kind n))
      (λ none. let never : false ≡ true = ap is_some (sym none) ∙ h in absurd (cc))
      (λ r some. held kind n (kept.within (key_by kind n) r some).0)

  pub number_at : (kind : Kind) (ns : List ℕ) (i : ℕ) → ns ≡ ids_of kind c → i < length ns → IsNumberOf kind (slice_index_or ns i 0)
  number_at kind ns i is h =
      each_at (IsNumberOf kind) ns i h
      (subst (AllByRecursion (IsNumberOf kind)) (sym is)
      (each_in (IsNumberOf kind) (ids_of kind c) (λ n e. there kind n (sym (in_ids kind c n) ∙ e))))
