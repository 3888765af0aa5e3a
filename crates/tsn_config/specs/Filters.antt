-- The stream filters of a configuration by number, and those with two specifications.
use Rattle.std.specs.Prelude.{◌≡◌, ℕ, nat_eq, Bool, true, false, ◌&&◌, Option, Some, None, option_map}
use Rattle.std.specs.Ordering.{nat_cmp}
use Rattle.std.specs.FinMap.{FinMap, get}
use Rattle.tsn_types.specs.declared.keys.Key.TheVariants.{Filter}
use Rattle.tsn_types.specs.declared.records.Record.TheVariants.{Filter as FilterRecord}
use Rattle.tsn_types.specs.declared.records.StreamFilter.{StreamFilter}
use Rattle.tsn_edit.specs.Configuration.{Configuration}

-- the filters of the configuration, by number
abbrev pub AreFilters : FinMap nat_cmp StreamFilter → Configuration → Type 0
AreFilters fs c = (n : ℕ) → option_map FilterRecord (get fs n) ≡ get c (Filter n)

-- a specification is this one: this number, or the wildcard
abbrev pub is_just : Option ℕ → Option ℕ → Bool
is_just None None = true
is_just (Some n) (Some m) = nat_eq m n
is_just wanted given = false

-- whether a filter's stream handle and priority specifications are these two
abbrev pub specifies : Option ℕ → Option ℕ → StreamFilter → Bool
specifies handle priority r = is_just handle r.handle && is_just priority r.priority
