-- What the calendar's definitions mean, in other words: the laws of `laws` say that they mean this.
use Rattle.std.specs.Prelude.{◌≡◌, ℕ, suc, ◌+◌, ◌*◌, ◌<◌, ◌≤◌, ◌⊎◌, false, true, List, length, take, Some, slice_get}
use Rattle.std.specs.List.{sum_by}
use Rattle.tsn_schedule.specs.Starts.{Start}
use Rattle.tsn_schedule.specs.States.{is_held_back, nominal}

-- c is a whole number of cycles after the base and not before a, and no such instant is earlier.
pub record IsChangeTime (base cycle a c : ℕ) : Type 0 where
  pub cycles : ℕ
  pub on_grid : c ≡ base + cycles * cycle
  pub reached : a ≤ c
  pub least : (k : ℕ) → a ≤ base + k * cycle → c ≤ base + k * cycle

-- n is a cycle start that took place by t, and every later one up to t did not take place.
pub record IsLatestStart {E : Type 0} (start : Start E) (t n : ℕ) : Type 0 where
  pub cycles : ℕ
  pub on_grid : n ≡ nominal start cycles
  pub reached : n ≤ t
  pub took_place : is_held_back start n ≡ false
  pub latest : (k : ℕ) → n < nominal start k → nominal start k ≤ t → is_held_back start (nominal start k) ≡ true

-- The entry's earlier intervals sum to `earlier`, which is no more than the offset; with its own it is more, or the entry is the last.
pub record IsEntryAt {E : Type 0} (interval : E → ℕ) (list : List E) (offset earlier : ℕ) (entry : E) : Type 0 where
  pub place : ℕ
  pub is_there : slice_get list place ≡ Some entry
  pub sums : sum_by interval (take place list) ≡ earlier
  pub from : earlier ≤ offset
  pub to : (offset < earlier + interval entry) ⊎ (suc place ≡ length list)
