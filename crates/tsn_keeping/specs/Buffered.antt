-- What a device behind a buffer holds.
use Rattle.std.specs.Prelude.{◌≡◌, ◌≢◌, ℕ, ◌≤◌, List, [], Bool, true, false}

-- The most bytes that wait in the buffer.
abbrev pub most_waiting : ℕ
most_waiting = 65536

-- The bytes that the device keeps; those that it was given behind them; those that wait in the buffer; and whether no call
-- has failed.
pub record Held : Type 0 where
  pub kept : List ℕ
  pub loose : List ℕ
  pub waiting : List ℕ
  pub works : Bool

-- What is always so: the buffer has room for as much as may wait; where no call has failed the device may be asked; and the
-- mark of what a sync is wanted for is never forgotten, nor is it set where nothing is.
pub record IsSound (loose : List ℕ) (device_works : Bool) (len capacity : ℕ) (has_loose works : Bool) : Type 0 where
  pub within : len ≤ most_waiting
  pub room : most_waiting ≤ capacity
  pub may_ask : works ≡ true → device_works ≡ true
  pub none_loose : has_loose ≡ false → loose ≡ []
  pub some_loose : works ≡ true → has_loose ≡ true → loose ≢ []
