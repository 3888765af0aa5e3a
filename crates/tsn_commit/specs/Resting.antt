-- What a keeper holds while nobody is at it, and what is entered at once.
use Rattle.std.specs.Prelude.{◌≡◌, ℕ, List, [], ◌∷◌, ◌++◌, Contains, map, true}
use Rattle.tsn_recorded.specs.Text.{Recorded, AreRecordedAfter, text_after}
use Rattle.tsn_keeping.specs.Keeping.{Keeping, HasEntered, with_entered}

-- The commands of what was recorded.
abbrev pub commands_of : List Recorded → List (List ℕ)
commands_of rs = map (λ (r : Recorded). r.command) rs

-- These lines, each with this stamp.
abbrev pub stamped : List ℕ → List (List ℕ) → List Recorded
stamped stamp [] = []
stamped stamp (line ∷ lines) = record { stamp = stamp; command = line } ∷ stamped stamp lines

-- Each of these was entered, one behind the other.
abbrev pub with_all : List Recorded → Keeping → Keeping
with_all [] k = k
with_all (r ∷ rs) k = with_all rs (with_entered r k)

-- A keeper that nothing was entered into yet: these are the bytes that its device has, and the digest with which they end.
pub record Begins (had first : List ℕ) (k : Keeping) : Type 0 where
  pub works : k.works ≡ true
  pub kept_is : k.kept ≡ had
  pub none : k.unsettled ≡ []
  pub last_is : k.last ≡ first

-- No call of the keeper has failed, and nothing is unsettled: behind what its device had, and the digest with which that
-- ends, it keeps the text of recorded commands, and their lines are just these.
pub record Rests (had first : List ℕ) (lines : List (List ℕ)) (k : Keeping) : Type 0 where
  pub works : k.works ≡ true
  pub recorded : List Recorded
  pub entered : HasEntered had first recorded [] k
  pub commands : commands_of recorded ≡ lines

-- Behind these bytes, which end with this digest, the journal keeps the text of recorded commands, and the lines of these
-- are among them.
pub record KeepsBoth (had first kept one other : List ℕ) : Type 0 where
  pub recorded : List Recorded
  pub kept_is : kept ≡ had ++ text_after first recorded
  pub well : AreRecordedAfter first recorded
  pub has_one : Contains (commands_of recorded) one
  pub has_other : Contains (commands_of recorded) other
