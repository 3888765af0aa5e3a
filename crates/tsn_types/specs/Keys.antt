-- Keys, their order, and what a record refers to.
use Rattle.std.specs.Prelude.{ℕ, Bool, List, [], ◌∷◌, ◌++◌, Option, Some, None, option_map, option_to_list}
use Rattle.std.specs.List.{list_any}
use Rattle.std.specs.Ordering.{nat_cmp, ordering_then, eq_by_cmp}
use Rattle.std.specs.declared.cmp.Ordering.{Ordering}
use Rattle.tsn_types.specs.declared.keys.Key.{Key}
use Rattle.tsn_types.specs.declared.keys.Key.TheVariants.{Port, Filter, Gate, Meter}
use Rattle.tsn_types.specs.declared.keys.Kind.{Kind}
use Rattle.tsn_types.specs.declared.keys.Kind.TheVariants as kinds
use Rattle.tsn_types.specs.declared.records.Refs.{Refs}
use Rattle.tsn_types.specs.declared.records.Record.{Record}
use Rattle.tsn_types.specs.declared.records.Record.TheVariants.{Port as PortRecord, Filter as FilterRecord, Gate as GateRecord, Meter as MeterRecord}

-- the place of a key's kind: port, filter, gate, meter
abbrev pub kind_of : Key → ℕ
kind_of (Port n) = 0
kind_of (Filter n) = 1
kind_of (Gate n) = 2
kind_of (Meter n) = 3

-- the kind of what a key names
abbrev pub kind : Key → Kind
kind (Port n) = kinds.Port
kind (Filter n) = kinds.Filter
kind (Gate n) = kinds.Gate
kind (Meter n) = kinds.Meter

-- the number of the instance
abbrev pub number_of : Key → ℕ
number_of (Port n) = n
number_of (Filter n) = n
number_of (Gate n) = n
number_of (Meter n) = n

-- keys are ordered port, filter, gate, meter, and then by number
abbrev pub key_cmp : Key → Key → Ordering
key_cmp a b = ordering_then (nat_cmp (kind_of a) (kind_of b)) (nat_cmp (number_of a) (number_of b))

-- whether two keys are the same
abbrev pub same_key : Key → Key → Bool
same_key a b = eq_by_cmp key_cmp a b

-- whether a list has a key
abbrev pub has : List Key → Key → Bool
has ks k = list_any (same_key k) ks

-- whether two lists have a key in common
abbrev pub meets : List Key → List Key → Bool
meets ks ls = list_any (has ls) ks

-- a reference to a meter, where one is given
abbrev pub meter_ref : Option ℕ → List Key
meter_ref None = []
meter_ref (Some m) = Meter m ∷ []

-- what a record refers to: a filter to its gate and, if given, its meter
abbrev pub refs : Record → List Key
refs (PortRecord r) = []
refs (FilterRecord r) = Gate r.gate ∷ meter_ref r.meter
refs (GateRecord r) = []
refs (MeterRecord r) = []

-- what a value refers to, and none refers to nothing
abbrev pub refs_of : Option Record → List Key
refs_of None = []
refs_of (Some r) = refs r

-- the keys in an answer of `Record::refs`, the first one first
abbrev pub keys_of_refs : Refs → List Key
keys_of_refs r = option_to_list r.first ++ option_to_list r.second

-- what stands in the first place of that answer: the gate of a filter
abbrev pub first_ref : Record → Option Key
first_ref (PortRecord r) = None
first_ref (FilterRecord r) = Some (Gate r.gate)
first_ref (GateRecord r) = None
first_ref (MeterRecord r) = None

-- what stands in the second: the meter of a filter, where one is given
abbrev pub second_ref : Record → Option Key
second_ref (PortRecord r) = None
second_ref (FilterRecord r) = option_map Meter r.meter
second_ref (GateRecord r) = None
second_ref (MeterRecord r) = None
