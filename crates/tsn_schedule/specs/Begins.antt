-- Where the entries of a list begin in its cycle.
use Rattle.std.specs.Prelude.{◌≡◌, ℕ, ◌^◌, ◌<◌, ◌≤◌, List, length, take, slice_index}
use Rattle.std.specs.List.{sum_by}

-- of each entry the sum of the intervals before it; the entries that are left out begin at 2^64 or later
pub record AreBegins {E : Type 0} (interval : E → ℕ) (list : List E) (begins : List ℕ) : Type 0 where
  pub within : length begins ≤ length list
  pub each : (k : ℕ) → k < length begins → slice_index begins k ≡ sum_by interval (take k list)
  pub left_out : length begins < length list → 2 ^ 64 ≤ sum_by interval (take (length begins) list)
