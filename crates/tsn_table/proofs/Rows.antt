-- A hash map's rows as a finite map from numbers.
use Rattle.std.proofs.Common.{◌≡◌, ℕ, ◌<◌, true, cond, List, [], ◌∷◌, map, length, refl, sym, ◌∙◌, ap, Some, None, arith}
use Rattle.std.proofs.lemmas.Grind.{common_steps}
use Rattle.std.specs.Prelude.{nat_eq}
use Rattle.std.specs.Ordering.{nat_cmp, eq_by_cmp}
use Rattle.std.specs.FinMap.{FinMap, find, from_entries, entries, keys, len, len-entries, len-empty, get, get-entries, insert, remove, same_map, get-from_entries, get-insert, get-remove, nat_cmp-IsAntisymmetric}
use Rattle.std.specs.Map.{lookup}
use Rattle.std.proofs.lemmas.Cmp.{nat_cmp_total}
use Rattle.std.proofs.lemmas.Bool.Decides.{nat_tests}

-- that two numbers are equal, told by either test
pub equal_by : (k x : ℕ) → nat_eq k x ≡ eq_by_cmp nat_cmp k x
equal_by k x = grind (arith, nat_tests)

pub equal_by_turned : (k x : ℕ) → nat_eq k x ≡ eq_by_cmp nat_cmp x k
equal_by_turned k x = grind (arith, nat_tests)

pub itself : (k : ℕ) → eq_by_cmp nat_cmp k k ≡ true
itself k = grind (arith, nat_tests)

module _ {X : Type 0} where
  pub lookup_is : (k : ℕ) (es : List (ℕ × X)) → lookup (nat_eq k) es ≡ find nat_cmp k es
  lookup_is k [] = refl
  lookup_is k (e ∷ es) =
      ap (λ b. cond b (Some e.1) (lookup (nat_eq k) es)) (equal_by k e.0) ∙ ap (cond (eq_by_cmp nat_cmp k e.0) (Some e.1)) (lookup_is k es)

  -- what a number finds in the rows is what the map has at it
  pub found : (es : List (ℕ × X)) (m : FinMap nat_cmp X) → from_entries es ≡ m → (k : ℕ) → lookup (nat_eq k) es ≡ get m k
  found es m is k = lookup_is k es ∙ sym (get-from_entries nat_cmp_total es k) ∙ ap (λ n. get n k) is

  -- rows in which each number finds the same are the same map
  pub same_rows : (es fs : List (ℕ × X)) (m : FinMap nat_cmp X) → from_entries es ≡ m
      → ((q : ℕ) → lookup (nat_eq q) fs ≡ lookup (nat_eq q) es) → from_entries fs ≡ m
  same_rows es fs m is same = same_map nat_cmp_total nat_cmp-IsAntisymmetric _ _ (λ q. sym (found fs _ refl q) ∙ same q ∙ found es m is q)

  pub rows_put : (es fs : List (ℕ × X)) (m : FinMap nat_cmp X) (k : ℕ) (v : X) → from_entries es ≡ m →
      ((q : ℕ) → lookup (nat_eq q) fs ≡ cond (nat_eq k q) (Some v) (lookup (nat_eq q) es)) → from_entries fs ≡ insert m k v
  rows_put es fs m k v is puts = same_map nat_cmp_total nat_cmp-IsAntisymmetric _ _ (λ q.
      sym (found fs _ refl q) ∙ puts q ∙ ap (cond (nat_eq k q) (Some v)) (found es m is q)
      ∙ ap (λ b. cond b (Some v) (get m q)) (equal_by_turned k q) ∙ sym (get-insert nat_cmp_total m k v q))

  pub rows_taken : (es fs : List (ℕ × X)) (m : FinMap nat_cmp X) (k : ℕ) → from_entries es ≡ m →
      ((q : ℕ) → lookup (nat_eq q) fs ≡ cond (nat_eq k q) None (lookup (nat_eq q) es)) → from_entries fs ≡ remove m k
  rows_taken es fs m k is takes = same_map nat_cmp_total nat_cmp-IsAntisymmetric _ _ (λ q.
      sym (found fs _ refl q) ∙ takes q ∙ ap (cond (nat_eq k q) None) (found es m is q)
      ∙ ap (λ b. cond b None (get m q)) (equal_by_turned k q) ∙ sym (get-remove nat_cmp_total m k q))

  no_entry : (es : List (ℕ × X)) → length es ≡ 0 → map (λ e. e.0) es ≡ []
  no_entry es h = grind (arith, common_steps)

  one_entry : (es : List (ℕ × X)) (q : ℕ) (v : X) → find nat_cmp q es ≡ Some v → 0 < length (map (λ e. e.0) es)
  one_entry es q v is = grind (arith, common_steps)

  -- where no row lies the map has no number
  pub no_rows : (es : List (ℕ × X)) (m : FinMap nat_cmp X) → from_entries es ≡ m → length es ≡ 0 → keys m ≡ []
  no_rows [] m is none = no_entry (entries m) (sym (len-entries m) ∙ ap len (sym is) ∙ len-empty nat_cmp X)
  no_rows (e ∷ es) m is none = absurd (omega arith)

  -- and where one lies it has one
  pub some_rows : (es : List (ℕ × X)) (m : FinMap nat_cmp X) → from_entries es ≡ m → (length es ≡ 0 → ⊥) → 0 < length (keys m)
  some_rows [] m is some = absurd (some refl)
  some_rows (e ∷ es) m is some =
      let first : lookup (nat_eq e.0) (e ∷ es) ≡ Some e.1 = ap (λ b. cond b (Some e.1) (lookup (nat_eq e.0) es))
      (equal_by e.0 e.0 ∙ itself e.0) in
      one_entry (entries m) e.0 e.1 (sym (get-entries m e.0) ∙ sym (found (e ∷ es) m is e.0) ∙ first)
