-- Lists of numbers that rise, and the maps that they make.
use Rattle.std.specs.Prelude.{ℕ, ◌<◌, List, [], ◌∷◌, Option, Some, None, cond, nat_lt, ◌==◌, map}
use Rattle.std.specs.Ordering.{nat_cmp}
use Rattle.std.specs.FinMap.{FinMap, from_entries}

-- each number has P
abbrev pub AllNumbers : (ℕ → Type 0) → List ℕ → Type 0
AllNumbers P [] = Unit {0}
AllNumbers P (x ∷ xs) = P x × AllNumbers P xs

-- each number is below all later ones
abbrev pub IsRising : List ℕ → Type 0
IsRising [] = Unit {0}
IsRising (x ∷ xs) = AllNumbers (λ y. x < y) xs × IsRising xs

-- the numbers with x in its place, unless it is there
abbrev pub put_number : ℕ → List ℕ → List ℕ
put_number x [] = x ∷ []
put_number x (y ∷ ys) = cond (nat_lt x y) (x ∷ y ∷ ys) (y ∷ cond (nat_lt y x) (put_number x ys) ys)

-- the numbers but x
abbrev pub without_number : ℕ → List ℕ → List ℕ
without_number x [] = []
without_number x (y ∷ ys) = cond (x == y) (without_number x ys) (y ∷ without_number x ys)

-- the first number that is not below x
abbrev pub first_from : ℕ → List ℕ → Option ℕ
first_from x [] = None
first_from x (y ∷ ys) = cond (nat_lt y x) (first_from x ys) (Some y)

-- each number with nothing
abbrev pub units : List ℕ → List (ℕ × Unit {0})
units xs = map (λ x. (x, tt)) xs

abbrev pub map_of : List ℕ → FinMap nat_cmp (Unit {0})
map_of xs = from_entries (units xs)
