-- How a change holds its parts: one, or several in a vector.
use Rattle.std.specs.Prelude.{List, [], ◌∷◌}
use Rattle.tsn_edit.specs.declared.Parts.{Parts}
use Rattle.tsn_edit.specs.declared.Parts.TheVariants.{One, Many}
use Rattle.tsn_edit.specs.Parts.{Part}

-- the parts that are held, as a list
abbrev pub parts_in : Parts → List Part
parts_in (One p) = p ∷ []
parts_in (Many ps) = ps.items
