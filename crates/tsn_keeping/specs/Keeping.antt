-- What was entered into a journal, and how much of it is settled.
use Rattle.std.specs.Prelude.{◌≡◌, ℕ, List, [], ◌++◌, Bool}
use Rattle.tsn_recorded.specs.Text.{Recorded, AreRecordedAfter, body_of, digest_after, last_digest, text_after, text_of}

-- The bytes that the device surely keeps; those that were entered behind them, which a crash may take; the last digest; and
-- whether no call has failed.
pub record Keeping : Type 0 where
  pub kept : List ℕ
  pub unsettled : List ℕ
  pub last : List ℕ
  pub works : Bool

-- The recorded command's line was entered behind all others.
abbrev pub with_entered : Recorded → Keeping → Keeping
with_entered r k = record {
  kept = k.kept;
  unsettled = k.unsettled ++ text_of k.last r;
  last = digest_after k.last (body_of r);
  works = k.works;
}

-- All that was entered is kept.
abbrev pub with_settled : Keeping → Keeping
with_settled k = record { kept = k.kept ++ k.unsettled; unsettled = []; last = k.last; works = k.works }

-- Behind what the device had, and the digest with which that ends, these recorded commands were entered: the first are
-- settled, and the others are not.
pub record HasEntered (had first : List ℕ) (settled others : List Recorded) (k : Keeping) : Type 0 where
  pub kept : k.kept ≡ had ++ text_after first settled
  pub unsettled : k.unsettled ≡ text_after (last_digest first settled) others
  pub last : k.last ≡ last_digest first (settled ++ others)
  pub recorded : AreRecordedAfter first (settled ++ others)
