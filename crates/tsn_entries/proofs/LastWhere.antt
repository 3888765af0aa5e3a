-- The last element that passes a test.
use Rattle.std.proofs.Common.{◌≡◌, ℕ, ◌+◌, ◌<◌, Bool, true, cond, List, [], ◌∷◌, ◌++◌, sym, ◌∙◌, ap, Some, None, length, get_or, drop, take, add-one, arith}
use Rattle.std.specs.Option.{option_or}
use Rattle.std.proofs.Math.Seq.{drop-cons}
use Rattle.std.proofs.lemmas.List.{take-append-drop}
use Rattle.tsn_types.proofs.Causes.{option_or-None}
use Rattle.tsn_entries.specs.Finding.{last_where}

pub last_where-append : {A : Type 0} (t : A → Bool) (xs ys : List A)
    → last_where t (xs ++ ys) ≡ option_or (last_where t ys) (last_where t xs)
last_where-append t [] ys = sym (option_or-None (last_where t ys))
last_where-append t (x ∷ xs) ys = grind (arith, last_where-append t xs ys)

-- ---- a search from the back, a place at a time

module _ {A : Type 0} (t : A → Bool) (xs : List A) (i : ℕ) (x : A) (within : i < length xs) (at : x ≡ get_or xs i x)
    (none : last_where t (drop (i + 1) xs) ≡ None) where
  here : last_where t (drop i xs) ≡ cond (t x) (Some x) None
  here = grind (arith, drop-cons, add-one)

  pub found_here : t x ≡ true → last_where t xs ≡ Some x
  found_here pass =
      ap (last_where t) (sym (take-append-drop i xs))
      ∙ last_where-append t (take i xs) (drop i xs)
      ∙ ap (λ o. option_or o (last_where t (take i xs))) (here ∙ ap (λ b. cond b (Some x) None) pass)
