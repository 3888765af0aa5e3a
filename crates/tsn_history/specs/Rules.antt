-- The rule of a text, and what its steps tell.
use Rattle.std.specs.Prelude.{ℕ, ◌≡◌, ◌==◌, true, List, [], ◌∷◌, ◌++◌, length, MatchBool}
use Rattle.logbook.specs.Pages.{Cell, Step, View, Book, Named}

-- The first word is how many lines the text has. A book has two words, of which this one leaves the second at 0.
pub record IsKept (cells : List Cell) (log : List (List ℕ)) : Type 0 where
  pub words : cells ≡ (length log, true) ∷ (0, true) ∷ []

abbrev pub head_of : Book → Named
head_of b = record { tracked = true; key = 0; book = b }

-- The line was added to all that had been seen; or the text was longer, and was seen.
abbrev pub Adds : Step (List ℕ) → View (List ℕ) ℕ → ℕ → View (List ℕ) ℕ → Type 0
Adds s v found w = MatchBool (found == s.old) (w.0 ≡ v.0 ++ s.ask ∷ []) (length w.0 ≡ found)
