-- Lists that match place by place.
use Rattle.std.proofs.lemmas.List.{get_or-map, length-map}
use Rattle.std.proofs.Common.{All, map, subst, arith, Result, Ok, Err, IfOk, ◌≡◌, ℕ, suc, List, [], ◌∷◌, length, slice_get, Some, refl}
use Rattle.tsn_serve.specs.Serving.{Matched}

pub matched : {X Y : Type 0} (R : X → Y → Type 0) (xs : List X) (ys : List Y) → length ys ≡ length xs
    → ((k : ℕ) (x : X) (y : Y) → slice_get xs k ≡ Some x → slice_get ys k ≡ Some y → R x y) → Matched R xs ys
matched R [] [] len each = tt
matched R [] (y ∷ ys) len each = cc
matched R (x ∷ xs) [] len each = cc
matched R (x ∷ xs) (y ∷ ys) len each = (each 0 x y refl refl, matched R xs ys (cc len) (λ k a b p q. each (suc k) a b p q))

pub both_ok : {T E : Type 0} (r : Result T E) (P Q C : T → Type 0) → ((x : T) → P x → Q x → C x) → IfOk r P → IfOk r Q → IfOk r C
both_ok (Ok x) P Q C f p q = f x p q
both_ok (Err e) P Q C f p q = tt

-- what holds of all images holds of the image of each
pub of_images : {X Y : Type 0} (P : X → Type 0) (f : Y → X) (ys : List Y) → All P (map f ys) → All (λ y. P (f y)) ys
of_images P f ys all k d within = subst P (get_or-map f ys k d (f d) within) (all k (f d) (simp length-map (omega (arith, within))))
