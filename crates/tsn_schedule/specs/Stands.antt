-- Of which acts a runner may be.
use Rattle.std.specs.Prelude.{◌≡◌, ℕ, ◌≤◌, List}
use Rattle.tsn_schedule.specs.Acts.{Act, IsHistory, is_enabled, last_instant}
use Rattle.tsn_schedule.specs.Counters.{errors_in, change_in}
use Rattle.tsn_schedule.specs.Kept.{Kept}
use Rattle.tsn_schedule.specs.Running.{change_by, held_by, runs_by}
use Rattle.tsn_schedule.specs.States.{held_in, runs_in}

-- A runner stands for the acts where what it keeps answers as they do, at each instant from the last act on.
pub record StandsFor {E : Type 0} (kept : Kept E) (acts : List (Act E)) : Type 0 where
  pub history : IsHistory acts
  pub enabled : kept.enabled ≡ is_enabled acts
  pub last : kept.last ≡ last_instant acts
  pub errors : kept.errors ≡ errors_in acts
  pub change : change_by kept ≡ change_in acts
  pub held : (t : ℕ) → kept.last ≤ t → held_by kept t ≡ held_in acts t
  pub runs : (t : ℕ) → kept.last ≤ t → runs_by kept t ≡ runs_in acts t
