-- The numbers of a hash map's rows, sorted, are those of the finite map.
use Rattle.std.proofs.Common.{◌≡◌, ℕ, Bool, List, [], ◌∷◌, map, refl, sym, ◌∙◌, ap, Option, arith}
use Rattle.std.specs.Prelude.{nat_eq, is_some, T, ◌&&◌}
use Rattle.std.specs.Ordering.{nat_cmp, eq_by_cmp, is_lt}
use Rattle.std.specs.declared.cmp.Ordering.TheVariants.{Less}
use Rattle.std.specs.FinMap.{FinMap, find, is_sorted, from_entries, keys, entries, entries_sorted, contains_key-keys, nat_cmp-IsAntisymmetric}
use Rattle.std.specs.FinMap.Entries.{below_all, is_some-find, same_entries}
use Rattle.std.specs.List.{IsDistinct, AllByRecursion, list_any}
use Rattle.std.specs.List.Sorted.{IsPermutation, IsSorted, IsStrictlySortedBy}
use Rattle.std.specs.Map.{keys_of}
use Rattle.std.proofs.lemmas.Cmp.{nat_cmp_total}
use Rattle.std.proofs.lemmas.Bool.Decides.{nat_tests}
use Rattle.std.proofs.lemmas.List.Sorted.{IsNonDecreasingBy-from_sort, list_any-IsPermutation}
use Rattle.std.proofs.lemmas.Map.Keys.{IsDistinct-IsPermutation, IsStrictlyIncreasing-from_distinct, sorted_from_strictly_increasing, sorted_head, sorted_tail}
use Rattle.tsn_table.proofs.Rows.{found, lookup_is}

turned : (x y : ℕ) → nat_eq x y ≡ nat_eq y x
turned x y = grind (arith, nat_tests)

-- a number, as a row of nothing
abbrev row_of : ℕ → ℕ × Unit {0}
row_of k = (k, tt)

both : (a b : Bool) → T a → T b → T (a && b)
both a b p q = grind arith

below : (x : ℕ) (ks : List ℕ) → AllByRecursion (λ y. nat_cmp x y ≡ Less) ks → T (below_all nat_cmp x (map row_of ks))
below x [] h = tt
below x (k ∷ ks) h = both _ _ (rw h.0 tt) (below x ks h.1)

rising : (ks : List ℕ) → IsStrictlySortedBy nat_cmp ks → T (is_sorted nat_cmp (map row_of ks))
rising [] h = tt
rising (k ∷ ks) h = both _ _ (below k ks (sorted_head nat_cmp k ks h)) (rising ks (sorted_tail nat_cmp k ks h))

first : (a b : Bool) → T (a && b) → T a
first a b p = grind arith

second : (a b : Bool) → T (a && b) → T b
second a b p = grind arith

is_less : (x y : ℕ) → T (is_lt (nat_cmp x y)) → nat_cmp x y ≡ Less
is_less x y h = grind arith

module _ {X : Type 0} where
  all_above : (x : ℕ) (es : List (ℕ × X)) → T (below_all nat_cmp x es) → AllByRecursion (λ y. nat_cmp x y ≡ Less) (map (λ e. e.0) es)
  all_above x [] h = tt
  all_above x (e ∷ es) h = (is_less x e.0 (first _ _ h), all_above x es (second _ _ h))

  rises : (es : List (ℕ × X)) → T (is_sorted nat_cmp es) → IsStrictlySortedBy nat_cmp (map (λ e. e.0) es)
  unfolding IsStrictlySortedBy
  rises [] h = tt
  rises (e ∷ es) h = (all_above e.0 es (first _ _ h), rises es (second _ _ h))

numbers : (ks : List ℕ) → map (λ e. e.0) (map row_of ks) ≡ ks
numbers [] = refl
numbers (k ∷ ks) = ap (λ r. k ∷ r) (numbers ks)

no_more : (o r : Option (Unit {0})) → is_some o ≡ is_some r → o ≡ r
no_more o r e = grind arith

has : (q : ℕ) (ks : List ℕ) → is_some (find nat_cmp q (map row_of ks)) ≡ list_any (eq_by_cmp nat_cmp q) ks
has q ks = is_some-find nat_cmp q (map row_of ks) ∙ ap (list_any (eq_by_cmp nat_cmp q)) (numbers ks)

-- two rising lists with the same numbers are equal
same_numbers : (ks ns : List ℕ) → IsStrictlySortedBy nat_cmp ks → IsStrictlySortedBy nat_cmp ns
    → ((q : ℕ) → list_any (eq_by_cmp nat_cmp q) ks ≡ list_any (eq_by_cmp nat_cmp q) ns) → ks ≡ ns
same_numbers ks ns s t same =
    let rows = same_entries nat_cmp nat_cmp_total nat_cmp-IsAntisymmetric (map row_of ks) (map row_of ns) (rising ks s) (rising ns t)
    (λ q. no_more _ _ (has q ks ∙ same q ∙ sym (has q ns))) in
    sym (numbers ks) ∙ ap (map (λ e. e.0)) rows ∙ numbers ns

pub sorted_numbers : {X : Type 0} (es : List (ℕ × X)) (m : FinMap nat_cmp X) (ids : List ℕ) → from_entries es ≡ m
    → IsDistinct nat_eq (keys_of es) → IsPermutation (keys_of es) ids → IsSorted nat_cmp ids → ids ≡ keys m
sorted_numbers es m ids is d moved sorted =
    let distinct = IsDistinct-IsPermutation nat_eq turned (keys_of es) ids moved d in
    let rise = sorted_from_strictly_increasing ids
    (IsStrictlyIncreasing-from_distinct ids (IsNonDecreasingBy-from_sort (λ x. x) ids sorted) distinct) in
    same_numbers ids (keys m) rise (rises (entries m) (entries_sorted m)) (λ q.
    sym (list_any-IsPermutation (eq_by_cmp nat_cmp q) (keys_of es) ids moved) ∙ sym (is_some-find nat_cmp q es)
    ∙ ap is_some (sym (lookup_is q es) ∙ found es m is q) ∙ contains_key-keys m q)
