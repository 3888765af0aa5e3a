-- The runtime beside the book: it follows each change that an entry applied.
use Rattle.std.specs.Prelude.{◌≡◌, ℕ, ◌+◌, zero, suc, List, [], ◌∷◌, Option, Some, None}
use Rattle.std.specs.Option.{option_map_or}
use Rattle.tsn_edit.specs.Changes.{room_of}
use Rattle.tsn_edit.specs.Parts.{Change, inverse}
use Rattle.tsn_entries.specs.declared.entries.Entry.{Entry}
use Rattle.tsn_entries.specs.Entries.{Applied}
use Rattle.tsn_entries.specs.Finding.{change_at}
use Rattle.tsn_chain.specs.Following.{frames_after}
use Rattle.tsn_bridge.specs.Pair.{PairState}

-- What was kept, after all of xs were taken back, the last of them first; a step makes of it what a change leaves.
abbrev pub undone_by : {A : Type 0} → (A → Change → A) → A → List Applied → A
undone_by step a [] = a
undone_by step a (x ∷ xs) = step (undone_by step a xs) (inverse x.change)

-- what was kept after a change, if there was one
abbrev pub followed_by : {A : Type 0} → (A → Change → A) → A → Option Change → A
followed_by step a None = a
followed_by step a (Some e) = step a e

-- what was kept, after the changes of k entries behind the first n
abbrev pub followed : {A : Type 0} → (A → Change → A) → List Entry → A → ℕ → ℕ → A
followed step es a n zero = a
followed step es a n (suc k) = followed_by step (followed step es a n k) (change_at es (n + k + 1))

-- the room that following the entry of a number takes
abbrev pub room_at : List Entry → ℕ → ℕ
room_at es number = option_map_or room_of (change_at es number) 0

-- and that of k entries behind the first n
abbrev pub room_behind : List Entry → ℕ → ℕ → ℕ
room_behind es n zero = 0
room_behind es n (suc k) = room_behind es n k + room_at es (n + k + 1)

-- what the filter chain keeps followed a change, and the bridge time stays
pub record Follows (old : PairState) (e : Change) (new : PairState) : Type 0 where
  pub frames : new.frames ≡ frames_after old.time old.frames e
  pub time : new.time ≡ old.time

-- it followed the taking back of all of xs, the last of them first
pub record FollowsAll (old : PairState) (xs : List Applied) (new : PairState) : Type 0 where
  pub frames : new.frames ≡ undone_by (frames_after old.time) old.frames xs
  pub time : new.time ≡ old.time
