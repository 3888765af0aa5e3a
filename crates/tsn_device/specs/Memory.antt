-- What a device in memory is.
use Rattle.std.specs.Prelude.{ℕ, List, Option, Bool}

-- What is kept, what was written behind it, how many calls come before the one that fails and how many bytes that one
-- takes, and whether no call has failed.
pub record Memory : Type 0 where
  pub kept : List ℕ
  pub loose : List ℕ
  pub fails_after : Option ℕ
  pub takes : ℕ
  pub works : Bool
