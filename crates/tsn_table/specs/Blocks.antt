-- The numbers of a block in their order, and where among numbers one stands.
use Rattle.std.specs.Prelude.{◌≡◌, ℕ, ◌+◌, ◌<◌, Bool, true, false, List, ◌∷◌, Result, MatchResult, Some, length, slice_get, insert, remove}
use Rattle.tsn_table.specs.Rising.{put_number, without_number, first_from}
use Rattle.tsn_table.specs.declared.block.Block.{Block}
use Rattle.tsn_table.specs.declared.block.Put.{Put}
use Rattle.tsn_table.specs.declared.block.Put.TheVariants.{There, Came, Full}

-- how many numbers a block has behind its least one, where it has as many as it can; and half of them
abbrev pub most_more : ℕ
most_more = 62

abbrev pub half : ℕ
half = 31

abbrev pub numbers_in : Block → List ℕ
numbers_in block = block.least ∷ block.more.items

-- a number that is told to have come or gone counts as one
abbrev pub one_if : Bool → ℕ
one_if true = 1
one_if false = 0

-- where x stands among xs, or would stand: what a put of x leaves, and a removal, and which number from x on is the first
pub record IsPlaceOf (x : ℕ) (xs : List ℕ) (at : ℕ) : Type 0 where
  pub put : put_number x xs ≡ xs
  pub without : without_number x xs ≡ remove xs at
  pub first : first_from x xs ≡ Some x

pub record IsGapFor (x : ℕ) (xs : List ℕ) (at : ℕ) : Type 0 where
  pub put : put_number x xs ≡ insert xs at x
  pub without : without_number x xs ≡ xs
  pub first : first_from x xs ≡ slice_get xs at

abbrev pub Places : ℕ → List ℕ → Result ℕ ℕ → Type 0
Places x xs r = MatchResult r (IsPlaceOf x xs) (IsGapFor x xs)

-- what a put of x makes of a block: as many numbers where x is there, one more where it comes in, and none where it is full without x
abbrev pub Puts : ℕ → Block → Block → Put → Type 0
Puts x old new There = (numbers_in new ≡ put_number x (numbers_in old)) × (length (numbers_in new) ≡ length (numbers_in old))
Puts x old new Came = (numbers_in new ≡ put_number x (numbers_in old)) × (length (numbers_in new) ≡ length (numbers_in old) + 1)
    × (length old.more.items < most_more)
Puts x old new Full =
    (new ≡ old) × (length (put_number x (numbers_in old)) ≡ length (numbers_in old) + 1) × (length old.more.items ≡ most_more)
