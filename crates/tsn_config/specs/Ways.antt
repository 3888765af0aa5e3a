-- The parts of a change, and those of its inverse.
use Rattle.std.specs.Prelude.{IfSome, List, map}
use Rattle.std.specs.List.{AllByRecursion}
use Rattle.tsn_types.specs.InRange.{RecordInRange}
use Rattle.tsn_edit.specs.Parts.{Part, inverse_part}
use Rattle.tsn_config.specs.declared.fitting.Way.{Way}
use Rattle.tsn_config.specs.declared.fitting.Way.TheVariants.{Forth, Back}

-- a part, or with its values swapped
abbrev pub turned_part : Way → Part → Part
turned_part Forth p = p
turned_part Back p = inverse_part p

-- each of the parts
abbrev pub turned : Way → List Part → List Part
turned way ps = map (λ p. turned_part way p) ps

-- the numbers of each value after are in their ranges
abbrev pub AreInRange : List Part → Type 0
AreInRange ps = AllByRecursion (λ p. IfSome p.after RecordInRange) ps
