-- A value of its key's kind is the record of its row.
use Rattle.std.proofs.Common.{◌≡◌, ℕ, Option, arith}
use Rattle.std.specs.Prelude.{IfSome, IsTrue, option_map}
use Rattle.tsn_types.specs.declared.keys.Key.{Key}
use Rattle.tsn_types.specs.declared.keys.Key.TheVariants.{Port, Filter, Gate, Meter}
use Rattle.tsn_types.specs.declared.records.Record.{Record}
use Rattle.tsn_types.specs.declared.records.Record.TheVariants.{Port as PortRecord, Filter as FilterRecord, Gate as GateRecord, Meter as MeterRecord}
use Rattle.tsn_edit.specs.Edits.{is_of_kind}
use Rattle.tsn_config.specs.Kinds.{port_of, filter_of, gate_of, meter_of}
use Rattle.tsn_config.proofs.Joined.{set_in_tables_port, set_in_tables_filter, set_in_tables_gate, set_in_tables_meter}

-- a value, if it is a record, is of the key's kind
abbrev pub IsOfKind : Key → Option Record → Type 0
IsOfKind k v = IfSome v (λ r. IsTrue (is_of_kind k r))

pub whole_port : (n : ℕ) (v : Option Record) → IsOfKind (Port n) v → option_map PortRecord (port_of v) ≡ v
whole_port n v kind = grind arith

pub whole_filter : (n : ℕ) (v : Option Record) → IsOfKind (Filter n) v → option_map FilterRecord (filter_of v) ≡ v
whole_filter n v kind = grind arith

pub whole_gate : (n : ℕ) (v : Option Record) → IsOfKind (Gate n) v → option_map GateRecord (gate_of v) ≡ v
whole_gate n v kind = grind arith

pub whole_meter : (n : ℕ) (v : Option Record) → IsOfKind (Meter n) v → option_map MeterRecord (meter_of v) ≡ v
whole_meter n v kind = grind arith

-- what a row that is set does to the map of the tables
pub ruleset set_in_tables =
    (whole_port, set_in_tables_port, whole_filter, set_in_tables_filter, whole_gate, set_in_tables_gate, whole_meter, set_in_tables_meter)
