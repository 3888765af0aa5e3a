-- Sets of standing entries, and what the run without one is.
use Rattle.std.specs.Prelude.{◌≡◌, Bool, not, List, [], ◌∷◌, Option, Some, None, IsTrue, filter, find, flat_map}
use Rattle.std.specs.List.{AllByRecursion}
use Rattle.std.specs.FinMap.{get}
use Rattle.tsn_types.specs.declared.keys.Key.{Key}
use Rattle.tsn_types.specs.declared.records.Record.{Record}
use Rattle.tsn_types.specs.declared.limits.Limits.{Limits}
use Rattle.tsn_types.specs.Keys.{same_key}
use Rattle.tsn_edit.specs.Parts.{Change, Part, parts}
use Rattle.tsn_edit.specs.Configuration.{Configuration}
use Rattle.tsn_edit.specs.Changes.{conflicts}
use Rattle.tsn_edit.specs.Runs.{run, IsGood}
use Rattle.tsn_entries.specs.Entries.{Applied, changes}

-- the entries of the set, and the others
abbrev pub in_set : (Applied → Bool) → List Applied → List Applied
in_set out xs = filter out xs

abbrev pub left : (Applied → Bool) → List Applied → List Applied
left out xs = filter (λ x. not (out x)) xs

-- the earliest part on the key
abbrev pub first_on : List Change → Key → Option Part
first_on es k = find (λ p. same_key k p.key) (flat_map parts es)

-- the value before the part, or v where there is none
abbrev pub value_before : Option Part → Option Record → Option Record
value_before None v = v
value_before (Some p) v = p.before

-- with each entry the set has every later one that is in conflict with it
abbrev pub IsClosed : (Applied → Bool) → List Applied → Type 0
IsClosed out [] = Unit {0}
IsClosed out (x ∷ xs) = (IsTrue (out x) → AllByRecursion (λ y. IsTrue (conflicts y.change x.change) → IsTrue (out y)) xs) × IsClosed out xs

-- the run without the set is good, and ends at each key of the set in the value before its earliest change of that key, and elsewhere as
-- the run of all
pub record Commutes (l : Limits) (from : Configuration) (out : Applied → Bool) (xs : List Applied) : Type 0 where
  pub good : IsGood l from (changes (left out xs))
  pub ends : (k : Key) → get (run from (changes (left out xs))) k ≡ value_before (first_on (changes (in_set out xs)) k)
      (get (run from (changes xs)) k)
