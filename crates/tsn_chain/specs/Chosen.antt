-- The chosen filter of a frame: the least one whose handle and priority specifications match (802.1Q-2018, 8.6.5.1).
use Rattle.std.specs.Prelude.{◌≡◌, ℕ, ◌<◌, nat_eq, Bool, true, false, ◌&&◌, List, [], ◌∷◌, Option, Some, None}
use Rattle.std.specs.Ordering.{nat_cmp}
use Rattle.std.specs.FinMap.{FinMap, get, entries, from_entries}
use Rattle.tsn_table.specs.Firsts.{first_id}
use Rattle.tsn_types.specs.declared.keys.Key.{Key}
use Rattle.tsn_types.specs.declared.keys.Key.TheVariants.{Filter}
use Rattle.tsn_types.specs.declared.records.Record.{Record}
use Rattle.tsn_types.specs.declared.records.Record.TheVariants as records
use Rattle.tsn_types.specs.declared.records.StreamFilter.{StreamFilter}
use Rattle.tsn_edit.specs.Configuration.{Configuration}

-- a specification matches where it is a wildcard or the number itself
abbrev pub is_met : Option ℕ → ℕ → Bool
is_met None n = true
is_met (Some m) n = nat_eq m n

-- whether a filter matches a handle and a priority
abbrev pub is_matching : ℕ → ℕ → StreamFilter → Bool
is_matching handle priority q = is_met q.handle handle && is_met q.priority priority

-- the number of the first filter that matches, in the order of numbers
abbrev pub chosen : ℕ → ℕ → FinMap nat_cmp StreamFilter → Option ℕ
chosen handle priority m = first_id (is_matching handle priority) (entries m)

-- the filter of the number does not match, or is not there
abbrev pub Misses : ℕ → ℕ → FinMap nat_cmp StreamFilter → ℕ → Type 0
Misses handle priority m n = (q : StreamFilter) → get m n ≡ Some q → is_matching handle priority q ≡ false

-- the filter of the number matches
abbrev pub Matches : ℕ → ℕ → FinMap nat_cmp StreamFilter → ℕ → Type 0
Matches handle priority m n = (q : StreamFilter) × (get m n ≡ Some q) × (is_matching handle priority q ≡ true)

-- The filter of the number matches and none of a lesser number does; without a number, no filter matches.
abbrev pub IsLeast : ℕ → ℕ → FinMap nat_cmp StreamFilter → Option ℕ → Type 0
IsLeast handle priority m None = (n : ℕ) → Misses handle priority m n
IsLeast handle priority m (Some n) = Matches handle priority m n × ((k : ℕ) → k < n → Misses handle priority m k)

-- the filters of a configuration, by number
abbrev pub filter_rows : List (Key × Record) → List (ℕ × StreamFilter)
filter_rows [] = []
filter_rows ((Filter n, records.Filter q) ∷ es) = (n, q) ∷ filter_rows es
filter_rows (e ∷ es) = filter_rows es

abbrev pub filters_of : Configuration → FinMap nat_cmp StreamFilter
filters_of c = from_entries (filter_rows (entries c))
