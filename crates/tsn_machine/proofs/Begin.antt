-- Beginnings of a list, and runs that grow at the end.
use Rattle.std.proofs.Common.{◌≡◌, ℕ, ◌≤◌, ◌≢◌, ◌⊎◌, inl, inr, List, [], ◌∷◌, ◌++◌, length, refl, ap, sym, subst, ◌∙◌, arith, append_assoc}
use Rattle.std.proofs.lemmas.List.{append-nil}
use Rattle.std.proofs.lemmas.Bool.Decides.{nat_tests}
use mathlib.Core.Logic.{dite}
use native.Mathlib.Decide.{dec_le}
use Rattle.tsn_machine.specs.declared.history.Entry.{Entry}
use Rattle.tsn_machine.specs.History.{Begins, Runs, calls_by}

module _ {E : Type 0} where
  pub begins_self : (xs : List E) → Begins xs xs
  begins_self xs = ([], append-nil xs)

  pub begins_trans : (xs ys zs : List E) → Begins xs ys → Begins ys zs → Begins xs zs
  begins_trans xs ys zs p q = (p.0 ++ q.0, sym (append_assoc xs p.0 q.0) ∙ (ap (λ w. w ++ q.0) p.1 ∙ q.1))

  pub begins_more : (xs ys zs : List E) → Begins xs ys → Begins xs (ys ++ zs)
  begins_more xs ys zs p = begins_trans xs ys (ys ++ zs) p (zs, refl)

  -- of two beginnings of one list the shorter begins the longer
  pub begins_shorter : (xs ys zs : List E) → Begins xs zs → Begins ys zs → length xs ≤ length ys → Begins xs ys
  begins_shorter [] ys zs p q le = (ys, refl)
  begins_shorter (x ∷ xs) [] zs p q le = absurd (omega arith)
  begins_shorter (x ∷ xs) (y ∷ ys) [] p q le = absurd (cc (p.1))
  begins_shorter (x ∷ xs) (y ∷ ys) (z ∷ zs) p q le =
      let heads : x ≡ y = cc (p.1, q.1) in
      let rest = begins_shorter xs ys zs (p.0, cc (p.1)) (q.0, cc (q.1)) (omega arith) in (rest.0, cc (heads, rest.1))

  -- of two beginnings of one list, one begins the other
  pub begins_either : (xs ys zs : List E) → Begins xs zs → Begins ys zs → Begins xs ys ⊎ Begins ys xs
  begins_either xs ys zs p q = dite (dec_le (length xs) (length ys))
      (λ le. inl (begins_shorter xs ys zs p q le))
      (λ gt. inr (begins_shorter ys xs zs q p (omega arith)))

module _ {M Q A : Type 0} (steps : M → Q → A → M → Type 0) where
  pub Runs-snoc : (x y z : M) (log : List (Entry Q A)) (e : Entry Q A) → Runs steps x log y → steps y e.request e.reply z
      → Runs steps x (log ++ e ∷ []) z
  Runs-snoc x y z [] e r h = let P : M → Type 0 = λ m. steps m e.request e.reply z in (z, subst P (sym r) h, refl)
  Runs-snoc x y z (d ∷ log) e r h = (r.0, r.1, Runs-snoc r.0 y z log e r.2 h)

module _ {Q A : Type 0} where
  pub calls_by-own : (n : ℕ) (log : List (Entry Q A)) (e : Entry Q A) → e.number ≡ n → calls_by n (log ++ e ∷ []) ≡ calls_by n log ++ e ∷ []
  calls_by-own n [] e h = grind (arith, nat_tests)
  calls_by-own n (d ∷ log) e h = let r = calls_by-own n log e h in grind (arith, nat_tests)

  pub calls_by-other : (n : ℕ) (log : List (Entry Q A)) (e : Entry Q A) → e.number ≢ n → calls_by n (log ++ e ∷ []) ≡ calls_by n log
  calls_by-other n [] e h = grind (arith, nat_tests)
  calls_by-other n (d ∷ log) e h = let r = calls_by-other n log e h in grind (arith, nat_tests)
