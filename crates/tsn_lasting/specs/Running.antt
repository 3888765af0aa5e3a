-- How a script whose work lasts goes on while its input comes in pieces.
use Rattle.std.specs.Prelude.{◌≡◌, ℕ, List, ◌++◌, Option, map}
use Rattle.std.specs.Io.KnownBytes.{Consumes, IsAtEnd}
use Rattle.std.specs.List.{flat_map}
use Rattle.tsn_serve.specs.Lines.{Splits, last_line, short_line, with_line_feed}
use Rattle.tsn_lasting.specs.Standing.{HasAnswered, IsAtRest, Lasts, Standing}

-- The input so far is whole lines, which were answered, and a rest, of which this is held.
pub record Goes (s0 : Standing) (input : List ℕ) (held : Option (List ℕ)) (s : Standing) : Type 0 where
  pub lines : List (List ℕ)
  pub rest : List ℕ
  pub splits : Splits input lines rest
  pub held_is : held ≡ short_line rest
  pub answered : HasAnswered s0 (map short_line lines) s

-- Each line of the input was answered, the last one too where the end of the input ends it.
pub record IsWhole (s0 : Standing) (input : List ℕ) (s : Standing) : Type 0 where
  pub lines : List (List ℕ)
  pub rest : List ℕ
  pub splits : Splits input lines rest
  pub answered : HasAnswered s0 (map short_line (lines ++ last_line rest)) s

-- All of the input was read, and each of its lines answered; all that they leave is kept, and all replies were handed on.
pub record Ends (s0 : Standing) (left end : Option (List ℕ)) (s : Standing) : Type 0 where
  pub input : List ℕ
  pub read : Consumes left end input
  pub at_end : IsAtEnd end
  pub whole : IsWhole s0 input s
  pub rests : IsAtRest s

-- The input begins with these lines, each ended.
abbrev pub AreRead : List ℕ → List (List ℕ) → Type 0
AreRead input lines = (more : List ℕ) × (input ≡ flat_map with_line_feed lines ++ more)

-- An answer broke off: what was handed on lasts, of lines with which the input begins, and of one more at its end.
pub record IsBroken (s0 : Standing) (input : List ℕ) (s : Standing) : Type 0 where
  pub lines : List (List ℕ)
  pub read : AreRead input lines
  pub others : List (Option (List ℕ))
  pub lasts : Lasts s0 (map short_line lines ++ others) s

-- The run broke off, in an answer or in a read.
pub record Breaks (s0 : Standing) (left end : Option (List ℕ)) (s : Standing) : Type 0 where
  pub input : List ℕ
  pub read : Consumes left end input
  pub broken : IsBroken s0 input s

-- So much of the input was read and answered, nothing waits, and all that was entered is kept.
pub record IsUnderWay (s0 : Standing) (left now held : Option (List ℕ)) (s : Standing) : Type 0 where
  pub input : List ℕ
  pub read : Consumes left now input
  pub goes : Goes s0 input held s
  pub rests : IsAtRest s
