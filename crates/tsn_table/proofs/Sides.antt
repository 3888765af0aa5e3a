-- Numbers that rise: those of a block, which begins with k, between the numbers of two sides.
use Rattle.std.proofs.Common.{◌≡◌, ℕ, ◌<◌, ◌≤◌, true, false, cond, eqb, ltb, List, [], ◌∷◌, ◌++◌, refl, sym, ap, ◌∙◌, subst, Some, length-append, arith}
use Rattle.std.specs.Option.{is_none}
use Rattle.std.proofs.lemmas.Bool.{lt-ltb, ltb-true, ltb-false}
use Rattle.tsn_table.specs.Rising.{AllNumbers, IsRising, put_number, without_number, first_from}
use Rattle.tsn_table.specs.Sides.{BelongsLeft, BelongsHere, BelongsRight}
use Rattle.tsn_table.proofs.Rising.{all_middle, all_weaker, put_by, put_later, put_left, rising_back, rising_front, without_by, without_later, without_above, without_left}

abbrev AllBelow : ℕ → List ℕ → Type 0
AllBelow x xs = AllNumbers (λ y. y < x) xs

abbrev AllAbove : ℕ → List ℕ → Type 0
AllAbove x xs = AllNumbers (λ y. x < y) xs

all_back : (P : ℕ → Type 0) (l m : List ℕ) → AllNumbers P (l ++ m) → AllNumbers P m
all_back P [] m a = a
all_back P (x ∷ l) m a = all_back P l m a.1

-- the block's own numbers rise
pub rising_block : (l b r : List ℕ) → IsRising (l ++ (b ++ r)) → IsRising b
rising_block l b r s = rising_front b r (rising_back l (b ++ r) s)

-- what is on the left is below the block's least number, and so below each number that is no less
pub left_below : (x : ℕ) (l : List ℕ) (k : ℕ) (m : List ℕ) → k ≤ x → IsRising (l ++ k ∷ m) → AllBelow x l
left_below x [] k m le s = tt
left_below x (y ∷ l) k m le s = let less : y < k = all_middle (λ z. y < z) l k m s.0 in (omega (arith, less, le), left_below x l k m le s.1)

-- what is on the right is above the block, and so above each number that one of the block is no less than
after_first : (x y : ℕ) (r : List ℕ) → x ≤ y → AllAbove y r → AllAbove x r
after_first x y r le a = all_weaker (λ z. y < z) (λ z. x < z) (λ z less. omega (arith, less, le)) r a

pub right_above : (x : ℕ) (b r : List ℕ) → is_none (first_from x b) ≡ false → IsRising (b ++ r) → AllAbove x r
right_above x [] r n s = absurd (cc)
right_above x (y ∷ b) r n s = elim (ltb y x) as (λ t. ltb y x ≡ t → is_none (cond t (first_from x b) (Some y)) ≡ false → AllAbove x r) [
  | true ↦ λ e found. right_above x b r found s.1
  | false ↦ λ e found. after_first x y r (ltb-false y x e) (all_back (λ z. y < z) b r s.0)
] refl n

pub right_of : (x : ℕ) (l : List ℕ) (k : ℕ) (m r : List ℕ) → x < k → IsRising (l ++ ((k ∷ m) ++ r)) → AllAbove x r
right_of x l k m r less s = after_first x k r (omega (arith, less)) (all_back (λ z. k < z) m r (rising_back l (k ∷ (m ++ r)) s).0)

block_below : (x : ℕ) (b : List ℕ) → is_none (first_from x b) ≡ true → AllBelow x b
block_below x [] n = tt
block_below x (y ∷ b) n = elim (ltb y x) as (λ t. ltb y x ≡ t → is_none (cond t (first_from x b) (Some y)) ≡ true → AllBelow x (y ∷ b)) [
  | true ↦ λ e none. (ltb-true y x e, block_below x b none)
  | false ↦ λ e none. absurd (cc)
] refl n

-- a put behind numbers that are all below the new one, and before numbers that are all above it
put_after : (x : ℕ) (l m : List ℕ) → AllBelow x l → put_number x (l ++ m) ≡ l ++ put_number x m
put_after x [] m a = refl
put_after x (y ∷ l) m a = put_later x y (l ++ m) a.0 ∙ ap (λ z. y ∷ z) (put_after x l m a.1)

put_before : (x : ℕ) (b r : List ℕ) → AllAbove x r → put_number x (b ++ r) ≡ put_number x b ++ r
put_before x [] [] a = refl
put_before x [] (y ∷ r) a = rw (lt-ltb x y a.0) refl
put_before x (y ∷ b) r a = put_by (ltb x y) (ltb y x) x y b (put_number x b) r _ (put_before x b r a)

-- a put among numbers of which a part begins with u
put_upper : (x : ℕ) (l : List ℕ) (u : ℕ) (m : List ℕ) → u ≤ x → IsRising (l ++ u ∷ m)
    → put_number x (l ++ u ∷ m) ≡ l ++ put_number x (u ∷ m)
put_upper x l u m le s = put_after x l (u ∷ m) (left_below x l u m le s)

-- the same of a number that is taken out
without_after : (x : ℕ) (l m : List ℕ) → AllBelow x l → without_number x (l ++ m) ≡ l ++ without_number x m
without_after x [] m a = refl
without_after x (y ∷ l) m a = without_later x y (l ++ m) a.0 ∙ ap (λ z. y ∷ z) (without_after x l m a.1)

without_before : (x : ℕ) (b r : List ℕ) → AllAbove x r → without_number x (b ++ r) ≡ without_number x b ++ r
without_before x [] r a = without_above x r a
without_before x (y ∷ b) r a = without_by (eqb x y) y (without_number x b) r _ (without_before x b r a)

-- where a number belongs
pub belongs_left : (x : ℕ) (l : List ℕ) (k : ℕ) (m r : List ℕ) → x < k → IsRising (l ++ ((k ∷ m) ++ r)) → BelongsLeft x l (k ∷ m) r
belongs_left x l k m r less s = grind (arith, put_left, without_left, rising_front, length-append)

pub belongs_here : (x : ℕ) (l b r : List ℕ) → AllBelow x l → AllAbove x r → IsRising (l ++ (b ++ r)) → BelongsHere x l b r
belongs_here x l b r below above s = grind (arith, put_after, put_before, without_after, without_before, rising_block)

pub belongs_right : (x : ℕ) (l : List ℕ) (k : ℕ) (m r : List ℕ) → k ≤ x → is_none (first_from x (k ∷ m)) ≡ true
    → IsRising (l ++ ((k ∷ m) ++ r)) → BelongsRight x l (k ∷ m) r
belongs_right x l k m r le n s = grind (arith, left_below, block_below, put_after, without_after, rising_back, length-append)

-- the same of a part that is known by an equation, and of what a put leaves there
pub in_lower : (x : ℕ) (all l : List ℕ) (u : ℕ) (m new : List ℕ) → all ≡ l ++ u ∷ m → x < u → new ≡ put_number x l
    → new ++ u ∷ m ≡ put_number x all
in_lower x all l u m new is less n = ap (λ z. z ++ u ∷ m) n ∙ sym (put_left x u l m less) ∙ ap (put_number x) (sym is)

pub in_upper : (x : ℕ) (all l : List ℕ) (u : ℕ) (m new : List ℕ) → all ≡ l ++ u ∷ m → u ≤ x → IsRising all → new ≡ put_number x (u ∷ m)
    → l ++ new ≡ put_number x all
in_upper x all l u m new is le s n = ap (λ z. l ++ z) n ∙ sym (put_upper x l u m le (subst IsRising is s)) ∙ ap (put_number x) (sym is)
