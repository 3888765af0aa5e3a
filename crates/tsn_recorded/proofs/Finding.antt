-- What stands at the front of bytes whose first line is at hand.
use Rattle.std.proofs.Common.{◌≡◌, ◌≢◌, ℕ, ◌+◌, List, ◌∷◌, ◌++◌, take, drop, arith}
use Rattle.std.proofs.lemmas.List.{append_assoc}
use Rattle.tsn_recorded.specs.Text.{Recorded, IsRecordedAfter, line_feed, line_of, text_of}
use Rattle.tsn_recorded.specs.Reading.{BeginsWithLine, BeginsWithNone}
use Rattle.tsn_recorded.proofs.Lines.{split_at}
use Rattle.tsn_recorded.proofs.Readings.{line_of-line, text_of-line}
use Rattle.tsn_recorded.proofs.Splitting.{same_parts}

module _ (bytes : List ℕ) (count : ℕ) (first : BeginsWithLine bytes count) where
  line_feed_at : bytes ≡ take count bytes ++ line_feed ∷ drop (count + 1) bytes
  line_feed_at = split_at line_feed bytes count first.inside first.ended

  -- where the line is that of a recorded command, its text stands there
  pub text_at : (last : List ℕ) (r : Recorded) → take count bytes ≡ line_of last r → bytes ≡ text_of last r ++ drop (count + 1) bytes
  text_at last r is = grind (arith, line_feed_at, text_of-line)

  -- where it is the line of none, none begins there, whatever follows
  pub none_at : (last : List ℕ) → ((r : Recorded) → IsRecordedAfter last r → take count bytes ≢ line_of last r)
      → (more : List ℕ) → BeginsWithNone last (bytes ++ more)
  none_at last none more r rest is e = grind (arith, line_feed_at, append_assoc, same_parts, line_of-line, text_of-line)
