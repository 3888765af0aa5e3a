-- Opening a configuration: what a list of records and the default ports make, and why a list is refused.
use Rattle.std.specs.Prelude.{ℕ, zero, suc, not, List, [], ◌∷◌, ◌++◌, Option, None, IsTrue, map, is_some, if◌then◌else◌}
use Rattle.std.specs.Option.{option_or}
use Rattle.std.specs.List.{AllByRecursion}
use Rattle.std.specs.FinMap.{from_entries, entries, get, insert}
use Rattle.tsn_types.specs.declared.keys.Key.{Key}
use Rattle.tsn_types.specs.declared.keys.Key.TheVariants.{Port}
use Rattle.tsn_types.specs.declared.records.Record.{Record}
use Rattle.tsn_types.specs.declared.records.Record.TheVariants.{Port as PortRecord}
use Rattle.tsn_types.specs.declared.limits.Limits.{Limits}
use Rattle.tsn_types.specs.declared.refusals.Field.TheVariants.{Id as IdField}
use Rattle.tsn_types.specs.declared.refusals.Refusal.{Refusal}
use Rattle.tsn_types.specs.declared.refusals.Refusal.TheVariants.{Range, Exists}
use Rattle.tsn_types.specs.InRange.{RecordInRange}
use Rattle.tsn_types.specs.Keys.{has}
use Rattle.tsn_types.specs.Limits.{unless, first_cause, holds_key, out_of_limits}
use Rattle.tsn_edit.specs.Configuration.{Configuration}
use Rattle.tsn_edit.specs.Edits.{is_of_kind, dangling}

-- each record is of its key's kind
abbrev pub AreOfKind : List (Key × Record) → Type 0
AreOfKind rs = AllByRecursion (λ e. IsTrue (is_of_kind e.0 e.1)) rs

-- the numbers of each record are in their ranges
abbrev pub RecordsInRange : List (Key × Record) → Type 0
RecordsInRange rs = AllByRecursion (λ e. RecordInRange e.1) rs

-- the record of a port that no record is given for: all gates open, an empty list, a cycle of a millisecond
abbrev pub default_port : Record
default_port = PortRecord (record { gates = 255; admin = record { list = []; cycle = 1000000; extension = 0; base = 0 } })

-- the ports from 1 to n with that record
abbrev pub default_ports : ℕ → List (Key × Record)
default_ports zero = []
default_ports (suc n) = default_ports n ++ (Port (suc n), default_port) ∷ []

-- c with the default record at a port that is not there
abbrev pub with_port : Configuration → ℕ → Configuration
with_port c n = if is_some (get c (Port n)) then c else insert c (Port n) default_port

-- the map of the records given and then the default ports, where the first record of a key counts
abbrev pub opening : Limits → List (Key × Record) → Configuration
opening l rs = from_entries (rs ++ default_ports l.ports)

-- an identifier outside the limits, named as the member of a setup, or else a reference or a list outside them
abbrev pub limit_cause : Limits → Key × Record → Option Refusal
limit_cause l e = option_or (unless (holds_key l e.0) (Range IdField)) (out_of_limits l e.1)

-- the first such cause in the order of the list
abbrev pub limits_cause : Limits → List (Key × Record) → Option Refusal
limits_cause l rs = first_cause (map (λ e. limit_cause l e) rs)

-- the first key that was seen, or stands earlier in the list
abbrev pub repeated_key : List Key → List (Key × Record) → Option Refusal
repeated_key seen [] = None
repeated_key seen (e ∷ es) = option_or (unless (not (has seen e.0)) (Exists e.0)) (repeated_key (e.0 ∷ seen) es)

-- the first absent reference in the order of keys: that of the least filter, its gate before its meter
abbrev pub dangling_cause : Configuration → Option Refusal
dangling_cause c = first_cause (map (λ e. dangling c e.1) (entries c))

-- the causes, in the order of their numbers
abbrev pub opening_causes : Limits → List (Key × Record) → List (Option Refusal)
opening_causes l rs = limits_cause l rs ∷ repeated_key [] rs ∷ dangling_cause (opening l rs) ∷ []

-- why the list is refused, if it is
abbrev pub opening_refusal : Limits → List (Key × Record) → Option Refusal
opening_refusal l rs = first_cause (opening_causes l rs)

-- 2 ports, tables of 16 instances, lists of up to 16 entries
abbrev pub standard_limits : Limits
standard_limits = record { ports = 2; filters = 16; gates = 16; meters = 16; list = 16 }
