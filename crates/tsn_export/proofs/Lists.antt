-- The texts of the elements of a list, put one behind another.
use Rattle.std.proofs.Common.{◌≡◌, ◌+◌, ◌<◌, ◌≤◌, ℕ, length, List, [], ◌∷◌, ◌++◌, drop, get_or, append_assoc, length-append, arith, refl, sym, ◌∙◌, ap}
use Rattle.std.specs.List.{flat_map}
use Rattle.std.specs.Prelude.{codes}
use Rattle.std.proofs.lemmas.List.{append-nil, at_drop_all, at_drop_more}
use Rattle.tsn_export.specs.Text.{list_lines}

-- what is written, and behind it the texts of the elements from one on, are the whole
abbrev pub IsLeft : {E : Type 0} → (E → List ℕ) → List E → ℕ → List ℕ → List ℕ → Type 0
IsLeft text es i written whole = written ++ flat_map text (drop i es) ≡ whole

module _ {E : Type 0} (text : E → List ℕ) (es : List E) (i : ℕ) (written whole : List ℕ) (left : IsLeft text es i written whole) where
  pub left_more : (e d : E) (new : List ℕ) → i < length es → e ≡ get_or es i d → new ≡ written ++ text e → IsLeft text es (i + 1) new whole
  left_more e d new inside is same =
      let rest = flat_map text (drop (i + 1) es) in
      let step : flat_map text (drop i es) ≡ text e ++ rest =
      at_drop_more (flat_map text) es i d inside ∙ ap (λ x. text x ++ rest) (sym is) in
      ap (λ t. t ++ rest) same ∙ append_assoc written (text e) rest ∙ ap (λ t. written ++ t) (sym step) ∙ left

  pub left_end : length es ≤ i → written ≡ whole
  left_end past = sym (append-nil written) ∙ ap (λ t. written ++ t) (sym (at_drop_all (flat_map text) es i past)) ∙ left

  -- what is written is no longer than the whole
  pub left_within : length written ≤ length whole
  left_within = omega (arith, length-append written (flat_map text (drop i es)), ap length left)

-- a list that has an entry stands between brackets
pub bracketed : {E : Type 0} (line : E → List ℕ) (es : List E) → 0 < length es
    → list_lines line es ≡ codes "list = [\n" ++ flat_map line es ++ codes "]\n"
bracketed line [] some = absurd (omega (arith, some))
bracketed line (e ∷ es) some = refl
