-- Edits: what their causes speak of, and the ranges of their numbers.
use Rattle.std.specs.Prelude.{Bool, true, false, List, [], ◌∷◌, Option, is_some, map, find, option_map}
use Rattle.std.specs.FinMap.{get, entries}
use Rattle.tsn_types.specs.declared.keys.Key.{Key}
use Rattle.tsn_types.specs.declared.keys.Key.TheVariants.{Port, Filter, Gate, Meter}
use Rattle.tsn_types.specs.declared.records.Record.{Record}
use Rattle.tsn_types.specs.declared.records.Record.TheVariants.{Port as PortRecord, Filter as FilterRecord, Gate as GateRecord, Meter as MeterRecord}
use Rattle.tsn_types.specs.declared.limits.Limits.{Limits}
use Rattle.tsn_types.specs.declared.refusals.Field.TheVariants.{Key as KeyField}
use Rattle.tsn_types.specs.declared.refusals.Refusal.{Refusal}
use Rattle.tsn_types.specs.declared.refusals.Refusal.TheVariants.{Shape, Range, Dangling, Referred}
use Rattle.tsn_types.specs.InRange.{RecordInRange}
use Rattle.tsn_types.specs.Keys.{has, refs}
use Rattle.tsn_types.specs.Limits.{unless, first_cause, holds_key, out_of_limits}
use Rattle.tsn_edit.specs.declared.Edit.{Edit}
use Rattle.tsn_edit.specs.declared.Edit.TheVariants.{Create, Replace, Remove}
use Rattle.tsn_edit.specs.Configuration.{Configuration}

-- whether the record is of the key's kind
abbrev pub is_of_kind : Key → Record → Bool
is_of_kind (Port n) (PortRecord r) = true
is_of_kind (Filter n) (FilterRecord r) = true
is_of_kind (Gate n) (GateRecord r) = true
is_of_kind (Meter n) (MeterRecord r) = true
is_of_kind k r = false

abbrev pub is_port : Key → Bool
is_port (Port n) = true
is_port (Filter n) = false
is_port (Gate n) = false
is_port (Meter n) = false

-- a reference that is absent, the gate before the meter
abbrev pub dangling : Configuration → Record → Option Refusal
dangling c r = first_cause (map (λ q. unless (is_some (get c q)) (Dangling q)) (refs r))

-- the least filter that refers to the key
abbrev pub referrer : Configuration → Key → Option Refusal
referrer c k = option_map (λ e. Referred e.0) (find (λ e. has (refs e.1) k) (entries c))

-- a record of another kind than the key; a key, a reference or a list outside the limits
abbrev pub limit_causes : Limits → Key → Record → List (Option Refusal)
limit_causes l k r = unless (is_of_kind k r) Shape ∷ unless (holds_key l k) (Range KeyField) ∷ out_of_limits l r ∷ []

-- the numbers of the edit's record are in their ranges
abbrev pub EditInRange : Edit → Type 0
EditInRange (Create k r) = RecordInRange r
EditInRange (Replace k r) = RecordInRange r
EditInRange (Remove k) = Unit {0}
