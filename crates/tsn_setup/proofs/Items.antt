-- The items of an array.
use Rattle.std.proofs.Common.{◌≡◌, List, [], ◌∷◌, map, refl, ap}
use Rattle.toml.specs.View.{view, items_view}
use Rattle.toml.specs.declared.value.Value.{Value}
use Rattle.tsn_setup.specs.Toml.{items_list}

-- the items of a list of values are those of its data
pub items_of_values : (vs : List Value) → items_list (items_view vs) ≡ map view vs
items_of_values [] = refl
items_of_values (v ∷ vs) = ap (λ ds. view v ∷ ds) (items_of_values vs)
