-- Texts: lists of command lines.
use Rattle.std.specs.Prelude.{◌≡◌, ℕ, List, ◌++◌}

-- The text begins with this front.
abbrev pub BeginsWith : List (List ℕ) → List (List ℕ) → Type 0
BeginsWith text front = (rest : List (List ℕ)) × (text ≡ front ++ rest)
