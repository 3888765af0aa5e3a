-- What a writer in front of another holds.
use Rattle.std.specs.Prelude.{ℕ, List}

-- The most bytes that are held.
abbrev pub most_held : ℕ
most_held = 65536

-- The writer behind, the bytes that it has not been given yet, and how many more fit behind them before it is given
-- them all.
pub record Held (W : Type 0) : Type 0 where
  pub inner : W
  pub pending : List ℕ
  pub room : ℕ
