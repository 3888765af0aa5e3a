-- What the bytes of a line say: which recorded command it says, or that it says none.
use Rattle.std.proofs.Common.{◌≡◌, ◌≢◌, ℕ, ◌+◌, ◌<◌, ◌≤◌, List, [], ◌∷◌, ◌++◌, length, take, drop, slice_index, sym, ◌∙◌, ap, arith, Option, Some, None}
use Rattle.std.specs.Prelude.{All}
use Rattle.std.proofs.lemmas.Bool.{eq-eqb}
use Rattle.std.proofs.lemmas.List.{append_assoc, drop_at, drop_more, get_or-take, get_or_at, get_or_default, length-append, length-take, take-append-drop, take_all, take_at}
use Rattle.std.proofs.lemmas.List.Elements.{All-drop, All-same, All-take}
use Rattle.memchr.specs.Find.{IsFirstByte, Nowhere, Passes, is_byte}
use Rattle.tsn_recorded.specs.Text.{Recorded, IsRecorded, body_of, digest_after, digest_length, line_feed, line_of, space}
use Rattle.tsn_recorded.specs.Reading.{recorded_in}
use Rattle.tsn_recorded.proofs.Digests.{length-digest_after}
use Rattle.tsn_recorded.proofs.Splitting.{has_one}

-- a front in which a byte was sought in vain is free of it
pub free_front : (b : ℕ) (bytes : List ℕ) (k : ℕ) → Nowhere (Passes (is_byte b) bytes) 0 k → All (λ x. x ≢ b) (take k bytes)
free_front b bytes k none i d below e = grind (arith, length-take, get_or_default, get_or-take, eq-eqb)

pub free_all : (b : ℕ) (bytes : List ℕ) → Nowhere (Passes (is_byte b) bytes) 0 (length bytes) → All (λ x. x ≢ b) bytes
free_all b bytes none = All-same (λ x. x ≢ b) bytes (take (length bytes) bytes) (sym (take_all (length bytes) bytes (omega arith)))
    (free_front b bytes (length bytes) none)

-- a list is what lies ahead of a place, what stands there, and what lies behind
pub split_at : (b : ℕ) (bytes : List ℕ) (k : ℕ) → k < length bytes → slice_index bytes k ≡ b
    → bytes ≡ take k bytes ++ b ∷ drop (k + 1) bytes
split_at b bytes k inside here = grind (arith, drop_more, take-append-drop)

-- ---- where a line is that of a recorded command

module _ (last : List ℕ) (r : Recorded) where
  pub line_long : digest_length < length (line_of last r)
  line_long = grind (arith, length-digest_after, length-append)

  pub line_gap : slice_index (line_of last r) digest_length ≡ space
  line_gap = get_or_at (digest_after last (body_of r)) space (body_of r) 0 digest_length (length-digest_after last (body_of r))

  pub line_digest : take digest_length (line_of last r) ≡ digest_after last (body_of r)
  line_digest = take_at (digest_after last (body_of r)) (space ∷ body_of r) digest_length (length-digest_after last (body_of r))

  pub line_body : drop (digest_length + 1) (line_of last r) ≡ body_of r
  line_body =
      let digits = length-digest_after last (body_of r) in
      let more = length-append (digest_after last (body_of r)) (space ∷ []) in
      ap (drop (digest_length + 1)) (sym (append_assoc (digest_after last (body_of r)) (space ∷ []) (body_of r)))
      ∙ drop_at (digest_after last (body_of r) ++ space ∷ []) (body_of r) (digest_length + 1) (omega (arith, digits, more))

-- ---- where it is the line of none

module _ (last line : List ℕ) (r : Recorded) (is : line ≡ line_of last r) where
  pub not_short : length line ≤ digest_length → ⊥
  not_short short = let long = line_long last r in let same = ap length is in omega (arith, long, same, short)

  pub not_joined : slice_index line digest_length ≢ space → ⊥
  not_joined other = other (ap (λ t. slice_index t digest_length) is ∙ line_gap last r)

  pub not_one_word : All (λ x. x ≢ space) (drop (digest_length + 1) line) → ⊥
  not_one_word free = has_one space r.stamp r.command
      (All-same (λ x. x ≢ space) (body_of r) _ (sym (ap (drop (digest_length + 1)) is ∙ line_body last r)) free)

  pub own_digest : digest_after last (drop (digest_length + 1) line) ≡ take digest_length line
  own_digest =
      ap (digest_after last) (ap (drop (digest_length + 1)) is ∙ line_body last r) ∙ sym (ap (take digest_length) is ∙ line_digest last r)

-- ---- where the bytes say so, it is the line of this one

module _ (last line : List ℕ) (n : ℕ) where
  pub is_line : digest_length < length line → slice_index line digest_length ≡ space
      → n < length (drop (digest_length + 1) line) → slice_index (drop (digest_length + 1) line) n ≡ space
      → digest_after last (drop (digest_length + 1) line) ≡ take digest_length line
      → line ≡ line_of last (recorded_in line n)
  is_line long gap inside here own =
      let body = drop (digest_length + 1) line in
      let words : body ≡ body_of (recorded_in line n) = split_at space body n inside here in
      split_at space line digest_length long gap ∙ ap (λ t. t ++ space ∷ body) (sym own) ∙ ap (λ b. digest_after last b ++ space ∷ b) words

  pub is_recorded : All (λ b. b ≢ line_feed) line → Nowhere (Passes (is_byte space) (drop (digest_length + 1) line)) 0 n
      → IsRecorded (recorded_in line n)
  is_recorded free before =
      let P : ℕ → Type 0 = λ b. b ≢ line_feed in
      let body = All-drop P (digest_length + 1) line free in
      record {
        stamp_line = All-take P n (drop (digest_length + 1) line) body;
        stamp_word = free_front space (drop (digest_length + 1) line) n before;
        command_line = All-drop P (n + 1) (drop (digest_length + 1) line) body;
      }

-- ---- what a search for a byte found

-- the byte stands at this place first
pub record Found (b : ℕ) (bytes : List ℕ) (k : ℕ) : Type 0 where
  pub inside : k < length bytes
  pub here : slice_index bytes k ≡ b
  pub before : Nowhere (Passes (is_byte b) bytes) 0 k

module _ (b : ℕ) (bytes sought : List ℕ) (same : sought ≡ bytes) (r : Option ℕ) (answer : IsFirstByte (is_byte b) sought r) where
  pub found : (k : ℕ) → r ≡ Some k → Found b bytes k
  found k is = grind arith

  pub missing : r ≡ None → All (λ x. x ≢ b) bytes
  missing is = grind (arith, free_all)
