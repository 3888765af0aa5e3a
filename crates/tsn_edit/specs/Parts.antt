-- What a change is made of: 1 to 16 parts, on distinct keys.
use Rattle.std.specs.Prelude.{ℕ, ◌≤◌, List, map, length}
use Rattle.tsn_edit.specs.declared.Part.{Part as OnePart}

-- a part: a key with its value before and after
abbrev pub Part : Type 0
Part = OnePart

-- a change, as the list of its parts
abbrev pub Change : Type 0
Change = List Part

-- the parts of a change
abbrev pub parts : Change → List Part
parts e = e

-- how many parts a change has at most
abbrev pub most_parts : ℕ
most_parts = 16

-- there are 1 to 16 of them
abbrev pub AreFew : List Part → Type 0
AreFew ps = (1 ≤ length ps) × (length ps ≤ most_parts)

-- a part with its values swapped
abbrev pub inverse_part : Part → Part
inverse_part p = record { key = p.key; before = p.after; after = p.before }

-- the inverse swaps the values before and after of each part
abbrev pub inverse : Change → Change
inverse e = map inverse_part e
