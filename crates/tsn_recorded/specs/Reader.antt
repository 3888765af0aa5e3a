-- What a reader of a journal file holds that is fed the file piece by piece.
use Rattle.std.specs.Prelude.{◌≡◌, ℕ, ◌+◌, ◌-◌, ◌^◌, ◌<◌, ◌≤◌, ◌↔◌, List, [], ◌++◌, Bool, true, false, Contains, IsTrue, length, drop, take}
use Rattle.tsn_recorded.specs.Text.{Recorded, AreRecordedAfter, digest_length, last_digest, line_feed, text_after}
use Rattle.tsn_recorded.specs.Reading.{BeginsWithNone, recorded_in}

-- Where a reader stands: how many recorded commands it gave, how many bytes of the file these are, the last digest, and
-- what the latest says. Behind them it was fed the bytes that it holds; and once it is settled that no further line
-- verifies, more of them, which it only counted, and looked through for a line feed.
pub record Standing : Type 0 where
  pub lines : ℕ
  pub good : ℕ
  pub last : List ℕ
  pub latest : Recorded
  pub held : List ℕ
  pub is_settled : Bool
  pub counted : ℕ
  pub has_line_feed : Bool

-- It was fed this front of the file, and gave these recorded commands of it.
pub record HasGiven (fed : List ℕ) (rs : List Recorded) (s : Standing) : Type 0 where
  pub counted : List ℕ
  pub front : fed ≡ text_after [] rs ++ (s.held ++ counted)
  pub recorded : AreRecordedAfter [] rs
  pub last : s.last ≡ last_digest [] rs
  pub count : length rs ≡ s.lines
  pub good : length (text_after [] rs) ≡ s.good
  pub size : length counted ≡ s.counted
  pub line_feeds : IsTrue s.has_line_feed ↔ Contains counted line_feed

-- Nothing was given yet, or what was given is let go.
abbrev pub nothing : Recorded
nothing = record {
  stamp = [];
  command = [];
}

-- What the latest line says, of which the bytes at hand are a front up to behind its line feed.
abbrev pub latest_in : List ℕ → ℕ → ℕ → Recorded
latest_in bytes given stamp = recorded_in (take (given - 1) bytes) stamp

-- What is always so of a reader: the latest line lies in the bytes at hand, with room for its parts; where no line can
-- come any more, none verifies whatever follows, and else nothing was only counted; and the counts fit their types.
pub record IsSound (bytes : List ℕ) (given stamp : ℕ) (last : List ℕ) (lines good counted : ℕ) (is_settled : Bool) : Type 0 where
  pub at_hand : given ≤ length bytes
  pub parts : 0 < given → digest_length + 1 + stamp + 1 < given
  pub none : is_settled ≡ true → (more : List ℕ) → BeginsWithNone last (drop given bytes ++ more)
  pub all : is_settled ≡ false → counted ≡ 0
  pub size : good + (length bytes - given) + counted < 2 ^ 64
  pub count : lines ≤ good
