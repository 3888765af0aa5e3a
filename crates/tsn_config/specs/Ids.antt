-- The numbers of the instances of one kind, and the keys that have them.
use Rattle.std.specs.Prelude.{ℕ, Bool, true, false, List, map, filter}
use Rattle.std.specs.FinMap.{keys}
use Rattle.tsn_types.specs.declared.keys.Key.{Key}
use Rattle.tsn_types.specs.declared.keys.Key.TheVariants.{Port, Filter, Gate, Meter}
use Rattle.tsn_types.specs.declared.keys.Kind.{Kind}
use Rattle.tsn_types.specs.declared.keys.Kind.TheVariants as kinds
use Rattle.tsn_types.specs.Keys.{number_of}
use Rattle.tsn_types.specs.Numbers.{IsInstanceId, IsPortId}
use Rattle.tsn_edit.specs.Configuration.{Configuration}

-- whether the key names an instance of the kind
abbrev pub is_of : Kind → Key → Bool
is_of kinds.Port (Port n) = true
is_of kinds.Filter (Filter n) = true
is_of kinds.Gate (Gate n) = true
is_of kinds.Meter (Meter n) = true
is_of kind k = false

-- the numbers of the keys of the kind, in the order of keys
abbrev pub ids_of : Kind → Configuration → List ℕ
ids_of kind c = map (λ k. number_of k) (filter (λ k. is_of kind k) (keys c))

-- the key of a kind and a number
abbrev pub key_by : Kind → ℕ → Key
key_by kinds.Port n = Port n
key_by kinds.Filter n = Filter n
key_by kinds.Gate n = Gate n
key_by kinds.Meter n = Meter n

-- a number that a key of the kind may have
abbrev pub IsNumberOf : Kind → ℕ → Type 0
IsNumberOf kinds.Port n = IsPortId n
IsNumberOf kinds.Filter n = IsInstanceId n
IsNumberOf kinds.Gate n = IsInstanceId n
IsNumberOf kinds.Meter n = IsInstanceId n
