-- Where a binary search among numbers that rise ends, and what an edit at that place does.
use Rattle.std.proofs.Common.{◌≡◌, ◌≢◌, ltb, ℕ, zero, suc, ◌<◌, ◌≤◌, List, [], ◌∷◌, length, get_or, Result, Ok, Err, Some, refl, sym, ap, ◌∙◌, arith}
use Rattle.std.proofs.lemmas.Grind.{common_steps}
use Rattle.std.specs.Prelude.{slice_get, insert, remove}
use Rattle.std.specs.List.Sorted.{IsSearchInRange, IsBinarySearchResult, IsNonDecreasingBy}
use Rattle.std.specs.Ordering.{nat_cmp, ordering_index}
use Rattle.std.proofs.lemmas.Cmp.{ranked}
use Rattle.std.proofs.lemmas.Bool.{lt-ltb, le-ltb}
use Rattle.std.specs.Option.{is_none}
use Rattle.std.proofs.lemmas.Bool.Decides.{nat_tests}
use Rattle.std.proofs.lemmas.List.Sorted.{IsNonDecreasingBy-from_default}
use Rattle.tsn_table.specs.Rising.{AllNumbers, IsRising, put_number, without_number, first_from}
use Rattle.tsn_table.specs.Blocks.{Places, Puts, most_more, numbers_in}
use Rattle.tsn_table.specs.declared.block.Block.{Block}
use Rattle.tsn_table.specs.declared.block.Put.{Put}
use Rattle.tsn_table.proofs.Rising.{all_weaker, put_later, put_middle, without_middle, without_later, without_above}

-- numbers that rise, by their places
at_above : (x : ℕ) (xs : List ℕ) (k : ℕ) → AllNumbers (λ y. x < y) xs → k < length xs → x < get_or xs k 0
at_above x xs k a lt = grind (arith, common_steps)

rises : (xs : List ℕ) (i j : ℕ) → IsRising xs → i < j → j < length xs → get_or xs i 0 < get_or xs j 0
rises [] i j s lt in_range = absurd (omega arith)
rises (y ∷ ys) i zero s lt in_range = absurd (omega arith)
rises (y ∷ ys) zero (suc j) s lt in_range = at_above y ys j s.0 (omega (arith, in_range))
rises (y ∷ ys) (suc i) (suc j) s lt in_range = rises ys i j s.1 (omega (arith, lt)) (omega (arith, in_range))

module _ (x : ℕ) where
  -- all before the place are below x
  abbrev Below : List ℕ → ℕ → Type 0
  Below xs at = (k : ℕ) → k < at → get_or xs k 0 < x

  first_at : (xs : List ℕ) (at : ℕ) → Below xs at → (at < length xs → x ≤ get_or xs at 0) → at ≤ length xs
      → first_from x xs ≡ slice_get xs at
  first_at [] at b f le = refl
  first_at (y ∷ ys) zero b f le = rw (le-ltb y x (f (omega arith))) refl
  first_at (y ∷ ys) (suc at) b f le =
      rw (lt-ltb y x (b 0 (omega arith)))
      (first_at ys at (λ k lt. b (suc k) (omega (arith, lt))) (λ lt. f (omega (arith, lt))) (omega (arith, le)))

  put_at : (xs : List ℕ) (at : ℕ) → Below xs at → (at < length xs → x < get_or xs at 0) → at ≤ length xs → put_number x xs ≡ insert xs at x
  put_at [] zero b f le = refl
  put_at [] (suc at) b f le = absurd (omega (arith, le))
  put_at (y ∷ ys) zero b f le = rw (lt-ltb x y (f (omega arith))) refl
  put_at (y ∷ ys) (suc at) b f le =
      put_later x y ys (b 0 (omega arith))
      ∙ ap (λ z. y ∷ z) (put_at ys at (λ k lt. b (suc k) (omega (arith, lt))) (λ lt. f (omega (arith, lt))) (omega (arith, le)))

  without_at : (xs : List ℕ) (at : ℕ) → Below xs at → IsRising xs → (at < length xs → x < get_or xs at 0) → at ≤ length xs
      → without_number x xs ≡ xs
  without_at [] at b s f le = refl
  without_at (y ∷ ys) zero b s f le =
      let less : x < y = f (omega arith) in
      without_above x (y ∷ ys) (less, all_weaker (λ z. y < z) (λ z. x < z) (λ z r. omega arith) ys s.0)
  without_at (y ∷ ys) (suc at) b s f le =
      without_later x y ys (b 0 (omega arith))
      ∙ ap (λ z. y ∷ z) (without_at ys at (λ k lt. b (suc k) (omega (arith, lt))) s.1 (λ lt. f (omega (arith, lt))) (omega (arith, le)))

  put_there : (xs : List ℕ) (at : ℕ) → Below xs at → IsRising xs → at < length xs → get_or xs at 0 ≡ x → put_number x xs ≡ xs
  put_there [] at b s lt e = absurd (omega arith)
  put_there (y ∷ ys) zero b s lt e = put_middle x y [] ys (sym e) s
  put_there (y ∷ ys) (suc at) b s lt e =
      put_later x y ys (b 0 (omega arith))
      ∙ ap (λ z. y ∷ z) (put_there ys at (λ k lt. b (suc k) (omega (arith, lt))) s.1 (omega (arith, lt)) e)

  without_there : (xs : List ℕ) (at : ℕ) → Below xs at → IsRising xs → at < length xs → get_or xs at 0 ≡ x
      → without_number x xs ≡ remove xs at
  without_there [] at b s lt e = absurd (omega arith)
  without_there (y ∷ ys) zero b s lt e = without_middle x y [] ys (sym e) s
  without_there (y ∷ ys) (suc at) b s lt e =
      without_later x y ys (b 0 (omega arith))
      ∙ ap (λ z. y ∷ z) (without_there ys at (λ k lt. b (suc k) (omega (arith, lt))) s.1 (omega (arith, lt)) e)

  -- some as a search has it
  some_at : (xs : List ℕ) (at : ℕ) → at < length xs → get_or xs at 0 ≡ x → slice_get xs at ≡ Some x
  some_at [] at lt e = absurd (omega arith)
  some_at (y ∷ ys) zero lt e = ap Some e
  some_at (y ∷ ys) (suc at) lt e = some_at ys at (omega (arith, lt)) e

  comparisons_rise : (xs : List ℕ) → IsRising xs → IsNonDecreasingBy (λ y. ordering_index (nat_cmp y x)) xs
  comparisons_rise xs s = IsNonDecreasingBy-from_default (λ y. ordering_index (nat_cmp y x)) xs 0 (λ i j le in_range.
      let up : get_or xs i 0 ≤ get_or xs j 0 = grind (arith, rises xs i j s, λ (same : i ≡ j). ap (λ n. get_or xs n 0) same) in
      grind (arith, nat_tests))

  -- a binary search ends at the number, or at the gap for it
  pub searched : (xs : List ℕ) (r : Result ℕ ℕ) → IsRising xs → IsSearchInRange r (length xs) → IsBinarySearchResult (λ y. nat_cmp y x) xs r
      → Places x xs r
  searched xs (Ok at) s in_range equal =
      let same : get_or xs at 0 ≡ x = ranked _ x _ (sym (equal 0)) in
      let below : Below xs at = λ k lt. omega (arith, rises xs k at s lt in_range, same) in
      record {
        put = put_there xs at below s in_range same;
        without = without_there xs at below s in_range same;
        first = first_at xs at below (λ lt. omega (arith, same)) (omega (arith, in_range)) ∙ some_at xs at in_range same;
      }
  searched xs (Err at) s in_range parted =
      let parts = parted (comparisons_rise xs s) in
      let below : Below xs at = λ k lt. ranked _ x _ (sym (parts.0 k 0 (omega arith) lt)) in
      let above : at < length xs → x < get_or xs at 0 = λ lt. ranked _ x _ (sym (parts.1 at 0 (omega arith) lt)) in
      record {
        put = put_at xs at below above in_range;
        without = without_at xs at below s above in_range;
        first = first_at xs at below (λ lt. omega (arith, above lt)) in_range;
      }

pub ends : (x y : ℕ) (ys : List ℕ) (at last : ℕ) → IsRising (y ∷ ys) → length ys ≤ suc at → slice_get ys at ≡ Some last
    → ltb last x ≡ is_none (first_from x (y ∷ ys))
ends x y [] at last s le e = absurd (cc)
ends x y (z ∷ []) (suc at) last s le e = absurd (cc)
ends x y (z ∷ []) zero last s le e = grind arith
ends x y (z ∷ w ∷ ws) zero last s le e = absurd (omega (arith, le))
ends x y (z ∷ w ∷ ws) (suc at) last s le e = grind (arith, (ends x z (w ∷ ws) at last s.1 (omega (arith, le)) e))

-- the least number of a block goes, and the next one comes in its place
pub least_goes : (x least next : ℕ) (xs rest : List ℕ) → x ≡ least → IsRising (least ∷ xs) → 0 < length xs → next ≡ get_or xs 0 next
    → rest ≡ remove xs 0 → next ∷ rest ≡ without_number x (least ∷ xs)
least_goes x least next [] rest e s lt n r = absurd (omega arith)
least_goes x least next (y ∷ ys) rest e s lt n r = ap (λ z. z ∷ rest) n ∙ ap (λ z. y ∷ z) r ∙ sym (without_middle x least [] (y ∷ ys) e s)

pub not_there : (x least : ℕ) (xs : List ℕ) → x ≤ least → x ≢ least → IsRising (least ∷ xs) → least ∷ xs ≡ without_number x (least ∷ xs)
not_there x least xs le other s = grind (arith, without_above, all_weaker)

-- a put into a block with a place leaves what it should
pub put_fits : (x : ℕ) (old new : Block) (r : Put) → Puts x old new r → length old.more.items < most_more
    → numbers_in new ≡ put_number x (numbers_in old)
put_fits x old new r is few = grind arith
