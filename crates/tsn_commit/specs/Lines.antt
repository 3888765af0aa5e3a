-- Command lines in a text, each ended by a line feed.
use Rattle.std.specs.Prelude.{◌≡◌, ◌≢◌, ℕ, ◌≤◌, ◌==◌, List, [], ◌∷◌, ◌++◌, Bool, true, false, All, length}
use Rattle.tsn_recorded.specs.Text.{line_feed, longest_command}

-- A command line has no line feed, and is no longer than it may be.
pub record IsLine (line : List ℕ) : Type 0 where
  pub free : All (λ b. b ≢ line_feed) line
  pub short : length line ≤ longest_command

-- The text of lines.
abbrev pub lines_text : List (List ℕ) → List ℕ
lines_text [] = []
lines_text (line ∷ lines) = line ++ line_feed ∷ lines_text lines

-- A byte stands ahead of lines: a line feed ends an empty one, and any other is the first byte of the first one.
abbrev pub behind_byte : Bool → ℕ → List (List ℕ) → List (List ℕ)
behind_byte true b lines = [] ∷ lines
behind_byte false b [] = (b ∷ []) ∷ []
behind_byte false b (line ∷ lines) = (b ∷ line) ∷ lines

-- The lines of a text.
abbrev pub lines_in : List ℕ → List (List ℕ)
lines_in [] = []
lines_in (b ∷ text) = behind_byte (b == line_feed) b (lines_in text)

-- A text of command lines, the last of which is ended too.
pub record AreLines (text : List ℕ) : Type 0 where
  pub ended : lines_text (lines_in text) ≡ text
  pub lines : All IsLine (lines_in text)
