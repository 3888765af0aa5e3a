-- What the limits hold.
use Rattle.std.specs.Prelude.{ℕ, ◌≤◌, ◌<◌, Bool, true, false, ◌&&◌, List, [], ◌∷◌, Option, Some, None, nat_lt, nat_le, length, map}
use Rattle.std.specs.Option.{option_or}
use Rattle.tsn_types.specs.declared.keys.Key.{Key}
use Rattle.tsn_types.specs.declared.keys.Key.TheVariants.{Port, Filter, Gate, Meter}
use Rattle.tsn_types.specs.declared.refusals.Field.TheVariants.{Key as KeyField, Gate as GateField, Meter as MeterField, List as ListField}
use Rattle.tsn_types.specs.declared.refusals.Refusal.{Refusal}
use Rattle.tsn_types.specs.declared.refusals.Refusal.TheVariants.{Range}
use Rattle.tsn_types.specs.declared.records.Record.{Record}
use Rattle.tsn_types.specs.declared.records.Record.TheVariants.{Port as PortRecord, Filter as FilterRecord, Gate as GateRecord, Meter as MeterRecord}
use Rattle.tsn_types.specs.declared.limits.Limits.{Limits}
use Rattle.tsn_types.specs.Keys.{refs}

-- the refusal, unless the test holds
abbrev pub unless : Bool → Refusal → Option Refusal
unless true why = None
unless false why = Some why

-- the first cause that there is
abbrev pub first_cause : List (Option Refusal) → Option Refusal
first_cause [] = None
first_cause (o ∷ os) = option_or o (first_cause os)

-- whether the key is within the limits
abbrev pub holds_key : Limits → Key → Bool
holds_key l (Port n) = nat_lt 0 n && nat_le n l.ports
holds_key l (Filter n) = nat_lt n l.filters
holds_key l (Gate n) = nat_lt n l.gates
holds_key l (Meter n) = nat_lt n l.meters

-- a reference outside the limits is refused by the name of its member
abbrev pub field_of : Key → Refusal
field_of (Port n) = Range KeyField
field_of (Filter n) = Range KeyField
field_of (Gate n) = Range GateField
field_of (Meter n) = Range MeterField

-- a list of n entries is not longer than the limit
abbrev pub lists_within : Limits → ℕ → Option Refusal
lists_within l n = unless (nat_le n l.list) (Range ListField)

-- why a record is outside the limits: its gate, its meter, or the length of its list
abbrev pub out_of_limits : Limits → Record → Option Refusal
out_of_limits l (PortRecord r) = lists_within l (length r.admin.list)
out_of_limits l (FilterRecord r) = first_cause (map (λ q. unless (holds_key l q) (field_of q)) (refs (FilterRecord r)))
out_of_limits l (GateRecord r) = lists_within l (length r.admin.list)
out_of_limits l (MeterRecord r) = None

-- the key is within the limits
abbrev pub HoldsKey : Limits → Key → Type 0
HoldsKey l (Port n) = (1 ≤ n) × (n ≤ l.ports)
HoldsKey l (Filter n) = n < l.filters
HoldsKey l (Gate n) = n < l.gates
HoldsKey l (Meter n) = n < l.meters

-- the record is of the key's kind, and its lists are within the limits
abbrev pub HoldsRecord : Limits → Key → Record → Type 0
HoldsRecord l (Port n) (PortRecord r) = length r.admin.list ≤ l.list
HoldsRecord l (Filter n) (FilterRecord r) = Unit {0}
HoldsRecord l (Gate n) (GateRecord r) = length r.admin.list ≤ l.list
HoldsRecord l (Meter n) (MeterRecord r) = Unit {0}
HoldsRecord l k r = ⊥
