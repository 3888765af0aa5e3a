-- Numbers of views added up, and facts of each view, after a change of one.
use Rattle.std.proofs.Common.{◌≡◌, ℕ, zero, suc, ◌<◌, ◌≤◌, ◌≢◌, ◌+◌, List, [], ◌∷◌, ◌++◌, length, set, refl, ap, sym, subst, ◌∙◌, ⊎_elim, arith}
use mathlib.Core.Option.{some, some-injective, some-ne-none}
use lib.ListN.{get_elem?}
use Rattle.atomic_table.proofs.Lists.{at_set}
use Rattle.tsn_desk.specs.Rule.{total}

module _ {V : Type 0} where
  pub total_set : (f : V → ℕ) (l : List V) (i : ℕ) (v w : V) → get_elem? l i ≡ some v → total f (set l i w) + f v ≡ total f l + f w
  total_set f [] i v w e = absurd (some-ne-none v (sym e))
  total_set f (x ∷ xs) zero v w e = let s : f x ≡ f v = ap f (some-injective x v e) in omega arith
  total_set f (x ∷ xs) (suc i) v w e = let r = total_set f xs i v w e in omega arith

  pub total_snoc : (f : V → ℕ) (l : List V) (v : V) → total f (l ++ v ∷ []) ≡ total f l + f v
  total_snoc f [] v = omega arith
  total_snoc f (x ∷ xs) v = let r = total_snoc f xs v in omega arith

  pub total_at : (f : V → ℕ) (l : List V) (i : ℕ) (v : V) → get_elem? l i ≡ some v → f v ≤ total f l
  total_at f [] i v e = absurd (some-ne-none v (sym e))
  total_at f (x ∷ xs) zero v e = let s : f x ≡ f v = ap f (some-injective x v e) in omega arith
  total_at f (x ∷ xs) (suc i) v e = let r = total_at f xs i v e in omega arith

  pub total_two : (f : V → ℕ) (l : List V) (i j : ℕ) (v w : V) → i ≢ j → get_elem? l i ≡ some v → get_elem? l j ≡ some w
      → f v + f w ≤ total f l
  total_two f [] i j v w n e d = absurd (some-ne-none v (sym e))
  total_two f (x ∷ xs) zero zero v w n e d = absurd (n refl)
  total_two f (x ∷ xs) zero (suc j) v w n e d =
      let s : f x ≡ f v = ap f (some-injective x v e) in let r = total_at f xs j w d in omega arith
  total_two f (x ∷ xs) (suc i) zero v w n e d =
      let s : f x ≡ f w = ap f (some-injective x w d) in let r = total_at f xs i v e in omega arith
  total_two f (x ∷ xs) (suc i) (suc j) v w n e d = let r = total_two f xs i j v w (λ p. n (ap suc p)) e d in omega arith

  pub total_below : (f g : V → ℕ) (l : List V) → ((v : V) → f v ≤ g v) → total f l ≤ total g l
  total_below f g [] h = omega arith
  total_below f g (x ∷ xs) h = let a = h x in let r = total_below f g xs h in omega arith

  -- what holds of the changed one and of each other holds of each
  pub each_set : (P : ℕ → V → Type 0) (l : List V) (i : ℕ) (w : V) → P i w → ((j : ℕ) (u : V) → j ≢ i → get_elem? l j ≡ some u → P j u)
      → (j : ℕ) (u : V) → get_elem? (set l i w) j ≡ some u → P j u
  each_set P l i w here there j u e = ⊎_elim
      (λ t. let F : ℕ × V → Type 0 = λ z. P z.0 z.1 in subst F (λ k. (sym t.0 k, t.1 k)) here)
      (λ t. there j u t.0 t.1) (at_set l i j w u e)

  pub at_inside : (l : List V) (i : ℕ) (v : V) → get_elem? l i ≡ some v → i < length l
  at_inside [] i v e = absurd (some-ne-none v (sym e))
  at_inside (x ∷ xs) zero v e = omega arith
  at_inside (x ∷ xs) (suc i) v e = let r = at_inside xs i v e in omega arith

  pub one_there : (l : List V) (i j : ℕ) (u v : V) → j ≡ i → get_elem? l j ≡ some u → get_elem? l i ≡ some v → u ≡ v
  one_there l i j u v e a b = some-injective u v (sym a ∙ (ap (λ k. get_elem? l k) e ∙ b))
