-- Histories: lists of calls, and what a machine's relation makes of them.
use Rattle.std.specs.Prelude.{◌≡◌, ℕ, ◌==◌, List, [], ◌∷◌, ◌++◌, if◌then◌else◌}
use Rattle.tsn_machine.specs.declared.history.Entry.{Entry}

-- the second list begins with the first
abbrev pub Begins : {E : Type 0} → List E → List E → Type 0
Begins {E} xs ys = (rest : List E) × (xs ++ rest ≡ ys)

module _ {M Q A : Type 0} (steps : M → Q → A → M → Type 0) where
  -- the calls, a step each, take the machine x to y
  abbrev pub Runs : M → List (Entry Q A) → M → Type 0
  Runs x [] y = x ≡ y
  Runs x (e ∷ es) y = (z : M) × steps x e.request e.reply z × Runs z es y

  -- a history is legal where its calls, a step each, take the machine x somewhere
  abbrev pub IsLegal : M → List (Entry Q A) → Type 0
  IsLegal x log = (y : M) × Runs x log y

-- the calls of a history that were made under a number, in their order
abbrev pub calls_by : {Q A : Type 0} → ℕ → List (Entry Q A) → List (Entry Q A)
calls_by n [] = []
calls_by n (e ∷ es) = if e.number == n then e ∷ calls_by n es else calls_by n es

-- a call under a number
abbrev pub call : {Q A : Type 0} → ℕ → Q → A → Entry Q A
call n q a = record { number = n; request = q; reply = a }
