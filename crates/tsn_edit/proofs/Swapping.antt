-- Parts that are swapped one by one.
use Rattle.std.proofs.Common.{◌≡◌, ℕ, zero, suc, ◌+◌, ◌<◌, ◌++◌, List, [], ◌∷◌, length, map, take, drop, get_or, refl, ap, add-one, arith}
use Rattle.std.proofs.lemmas.Grind.{common_steps}
use Rattle.std.proofs.Math.ListN.{set}
use Rattle.tsn_edit.specs.Parts.{Part, inverse_part}

-- the first i parts are swapped
abbrev pub so_far : ℕ → List Part → List Part
so_far i ps = map inverse_part (take i ps) ++ drop i ps

next_is : (ps : List Part) (i : ℕ) (d : Part) → i < length ps → get_or (so_far i ps) i d ≡ get_or ps i d
next_is ps i d h = grind (arith, common_steps)

next_set : (ps : List Part) (i : ℕ) (d : Part) → i < length ps → set (so_far i ps) i (inverse_part (get_or ps i d)) ≡ so_far (suc i) ps
next_set [] i d h = absurd (omega arith)
next_set (p ∷ ps) zero d h = refl
next_set (p ∷ ps) (suc i) d h = ap (λ qs. inverse_part p ∷ qs) (next_set ps i d (omega arith))

length_so_far : (ps : List Part) (i : ℕ) → length (so_far i ps) ≡ length ps
length_so_far ps i = grind (arith, common_steps)

-- one part more
pub swapped_next : (ps qs : List Part) (i : ℕ) (d new : Part) → qs ≡ so_far i ps → i < length qs → new ≡ inverse_part (get_or qs i d)
    → set qs i new ≡ so_far (i + 1) ps
swapped_next ps qs i d new is h inv = grind (arith, length_so_far, next_is, set, next_set, add-one)
