-- What holds of all elements of a list, and what holds at each place.
use Rattle.std.proofs.Common.{All, ℕ, zero, suc, List, [], ◌∷◌, ◌≡◌, slice_get, Some, refl, subst, arith}

pub all_of : {X : Type 0} (P : X → Type 0) (xs : List X) → ((k : ℕ) (x : X) → slice_get xs k ≡ Some x → P x) → All P xs
all_of P [] h k d lt = absurd (omega (arith, lt))
all_of P (x ∷ xs) h zero d lt = h zero x refl
all_of P (x ∷ xs) h (suc k) d lt = all_of P xs (λ j y e. h (suc j) y e) k d (omega (arith, lt))

pub at_all : {X : Type 0} (P : X → Type 0) (xs : List X) → All P xs → (k : ℕ) (x : X) → slice_get xs k ≡ Some x → P x
at_all P [] h k x e = absurd (cc e)
at_all P (y ∷ xs) h zero x e = subst P (cc e) (h zero y (omega arith))
at_all P (y ∷ xs) h (suc k) x e = at_all P xs (λ j d lt. h (suc j) d (omega (arith, lt))) k x e
