-- The text of a journal file: a line for each recorded command, whose digest goes on from the one before.
use Rattle.std.specs.Prelude.{ℕ, ◌+◌, ◌*◌, ◌≤◌, ◌≢◌, List, [], ◌∷◌, ◌++◌, All, length, take, ⊤}
use Rattle.hex.specs.Hex.{encode_lower}
use Rattle.sha2.specs.Sha256.{sha256}

abbrev pub line_feed : ℕ
line_feed = 10

abbrev pub space : ℕ
space = 32

-- How many digits a digest has.
abbrev pub digest_length : ℕ
digest_length = 32

-- What a line says beside its digest: when it was written, and the command.
pub record Recorded : Type 0 where
  pub stamp : List ℕ
  pub command : List ℕ

-- Neither holds a line feed, and the stamp holds no space.
pub record IsRecorded (r : Recorded) : Type 0 where
  pub stamp_line : All (λ b. b ≢ line_feed) r.stamp
  pub stamp_word : All (λ b. b ≢ space) r.stamp
  pub command_line : All (λ b. b ≢ line_feed) r.command

-- The text behind the digest's own space.
abbrev pub body_of : Recorded → List ℕ
body_of r = r.stamp ++ space ∷ r.command

-- The first 32 hexadecimal digits (lower case) of SHA-256.
unfoldable pub digest_of : List ℕ → List ℕ
digest_of bytes = take digest_length (encode_lower (sha256 bytes))

-- A line's digest is over the digest before it (nothing for the first line) and the text behind its own space.
abbrev pub digest_after : List ℕ → List ℕ → List ℕ
digest_after last body = digest_of (last ++ body)

-- A line: digest, space, stamp, space, command.
abbrev pub line_of : List ℕ → Recorded → List ℕ
line_of last r = digest_after last (body_of r) ++ space ∷ body_of r

-- The line, ended by a line feed.
abbrev pub text_of : List ℕ → Recorded → List ℕ
text_of last r = line_of last r ++ line_feed ∷ []

-- The text of recorded commands behind this digest: each goes on from the digest of the one before.
abbrev pub text_after : List ℕ → List Recorded → List ℕ
text_after last [] = []
text_after last (r ∷ rs) = text_of last r ++ text_after (digest_after last (body_of r)) rs

-- The digest with which recorded commands behind this digest end.
abbrev pub last_digest : List ℕ → List Recorded → List ℕ
last_digest last [] = last
last_digest last (r ∷ rs) = last_digest (digest_after last (body_of r)) rs

-- The text of a whole file.
abbrev pub file_of : List Recorded → List ℕ
file_of rs = text_after [] rs

-- ---- how long a line may be

-- The bytes of the longest stamp for which there is room, whatever the command.
abbrev pub longest_stamp : ℕ
longest_stamp = 20

-- The bytes of the longest command line.
abbrev pub longest_command : ℕ
longest_command = 131072

-- The bytes of the longest first command: a setup of 1,048,576 bytes, each written as an escape of six, and 32 bytes
-- around it.
abbrev pub longest_first_command : ℕ
longest_first_command = 6 * 1048576 + 32

-- The bytes of a command in a line of this digest before: the first line has none before it.
abbrev pub longest_command_after : List ℕ → ℕ
longest_command_after [] = longest_first_command
longest_command_after (b ∷ last) = longest_command

-- The bytes of the longest line behind this digest, the line feed not counted.
abbrev pub longest_after : List ℕ → ℕ
longest_after last = digest_length + 1 + longest_stamp + 1 + longest_command_after last

-- What may be recorded behind this digest: its line is no longer than a line there may be.
pub record IsRecordedAfter (last : List ℕ) (r : Recorded) : Type 0 where
  pub recorded : IsRecorded r
  pub within : length (line_of last r) ≤ longest_after last

-- Commands that may be recorded one after the other, the first behind this digest.
abbrev pub AreRecordedAfter : List ℕ → List Recorded → Type 0
AreRecordedAfter last [] = ⊤
AreRecordedAfter last (r ∷ rs) = IsRecordedAfter last r × AreRecordedAfter (digest_after last (body_of r)) rs

-- Stamp and command are no longer than this, so that there is room for them in any line.
pub record IsShort (r : Recorded) : Type 0 where
  pub stamp : length r.stamp ≤ longest_stamp
  pub command : length r.command ≤ longest_command
