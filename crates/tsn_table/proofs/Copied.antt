-- What a copy has at each number while rows are copied one by one.
use Rattle.std.proofs.Common.{◌≡◌, ℕ, true, cond, List, [], ◌∷◌, ◌++◌, map, refl, Option, Some, None, arith}
use Rattle.std.specs.Prelude.{nat_eq, is_some}
use Rattle.std.specs.Map.{lookup}
use Rattle.std.proofs.lemmas.Bool.Decides.{nat_tests}
use Rattle.tsn_table.proofs.Orders.{by_bool}

-- what is found at a number, where it stands among these rows
abbrev pub among : {X : Type 0} → List (ℕ × X) → ℕ → Option X → Option X
among xs q found = cond (is_some (lookup (nat_eq q) xs)) found None

equal_is : (q k : ℕ) → nat_eq k q ≡ true → k ≡ q
equal_is q k h = grind (arith, nat_tests)

flipped : (q k : ℕ) → nat_eq k q ≡ nat_eq q k
flipped q k = grind (arith, nat_tests)

module _ {X A : Type 0} (shows : A → ℕ × X) where
  lookup_more : (q : ℕ) (xs : List A) (y : A)
      → is_some (lookup (nat_eq q) (map shows (xs ++ y ∷ []))) ≡ cond (nat_eq q (shows y).0) true
      (is_some (lookup (nat_eq q) (map shows xs)))
  lookup_more q [] y = by_bool (nat_eq q (shows y).0) (λ e. rw e refl) (λ e. rw e refl)
  lookup_more q (x ∷ xs) y = grind (arith, (lookup_more q xs y))

  pub copied_more : (xs : List A) (y : A) (q : ℕ) (v : X) (before found after : Option X) → before ≡ among (map shows xs) q found →
      ((shows y).0 ≡ q → found ≡ Some v) → after ≡ cond (nat_eq (shows y).0 q) (Some v) before
      → after ≡ among (map shows (xs ++ y ∷ [])) q found
  copied_more xs y q v before found after b is a = grind (arith, lookup_more, equal_is, flipped)
