-- What a reader of such a file gives for any bytes: the longest front of verified lines, and what lies behind it.
use Rattle.std.specs.Prelude.{◌≡◌, ◌≢◌, ℕ, ◌+◌, ◌-◌, ◌<◌, ◌≤◌, nat_le, List, [], ◌∷◌, ◌++◌, All, Contains, length, take, drop, slice_index, if◌then◌else◌}
use Rattle.tsn_recorded.specs.declared.end.End.{End}
use Rattle.tsn_recorded.specs.declared.end.End.TheVariants.{Whole, Unfinished, Damaged}
use Rattle.tsn_recorded.specs.Text.{Recorded, IsRecordedAfter, AreRecordedAfter, digest_length, last_digest, line_feed, text_after, text_of}

-- These bytes begin with no line that verifies behind this digest.
abbrev pub BeginsWithNone : List ℕ → List ℕ → Type 0
BeginsWithNone last bytes = (r : Recorded) (more : List ℕ) → IsRecordedAfter last r → bytes ≢ text_of last r ++ more

-- The bytes begin with a line of so many bytes, which a line feed ends.
pub record BeginsWithLine (bytes : List ℕ) (n : ℕ) : Type 0 where
  pub inside : n < length bytes
  pub ended : slice_index bytes n ≡ line_feed
  pub line : All (λ b. b ≢ line_feed) (take n bytes)

-- Among these bytes no line feed stands from one place up to another.
pub record IsSought (bytes : List ℕ) (from sought : ℕ) : Type 0 where
  pub order : from ≤ sought
  pub within : sought ≤ length bytes
  pub free : All (λ b. b ≢ line_feed) (take (sought - from) (drop from bytes))

-- Behind this digest the bytes are the text of these recorded commands and a rest, and the rest begins with no further
-- line that verifies.
pub record Reads (last bytes : List ℕ) (rs : List Recorded) (rest : List ℕ) : Type 0 where
  pub front : bytes ≡ text_after last rs ++ rest
  pub recorded : AreRecordedAfter last rs
  pub longest : BeginsWithNone (last_digest last rs) rest

-- Which end it is behind so many lines: nothing; bytes with no line feed, however many (zero bytes are such), as a crash
-- leaves of a line that was not finished; or a line that does not verify, counted from 1.
abbrev pub IsEnd : ℕ → List ℕ → End → Type 0
IsEnd count rest Whole = rest ≡ []
IsEnd count rest (Unfinished bytes) = (rest ≢ []) × (length rest ≡ bytes) × All (λ b. b ≢ line_feed) rest
IsEnd count rest (Damaged line) = (line ≡ count + 1) × Contains rest line_feed

-- What a line says whose stamp has so many bytes.
abbrev pub recorded_in : List ℕ → ℕ → Recorded
recorded_in line stamp = record {
  stamp = take stamp (drop (digest_length + 1) line);
  command = drop (stamp + 1) (drop (digest_length + 1) line);
}

-- Of these recorded commands, those whose lines lie whole in the first n bytes of their text.
abbrev pub recorded_within : List ℕ → ℕ → List Recorded → List Recorded
recorded_within last n [] = []
recorded_within last n (r ∷ rs) =
    if nat_le (length (text_of last r)) n
    then r ∷ recorded_within (last_digest last (r ∷ [])) (n - length (text_of last r)) rs
    else []
