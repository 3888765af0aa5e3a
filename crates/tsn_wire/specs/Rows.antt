-- The names of each record's members, with the values that were read.
use Rattle.std.specs.Prelude.{◌≡◌, List, [], ◌∷◌, drop, Option, Some, option_map, ⊤}
use Rattle.std.specs.List.{zip}
use Rattle.serde_json.specs.Data.{Data, boolean, object, Members, no_members, member}
use Rattle.tsn_types.specs.declared.keys.Kind.{Kind}
use Rattle.tsn_types.specs.declared.keys.Kind.TheVariants.{Port, Filter, Gate, Meter}
use Rattle.tsn_records.specs.Members.{names_of}
use Rattle.tsn_records.specs.Shown.{gate_entry_value, list_array, or_null, port_entry_value, whole_data}
use Rattle.tsn_wire.specs.Members.{Rows, row_at}
use Rattle.tsn_wire.specs.declared.gathered.PortMembers.{PortMembers}
use Rattle.tsn_wire.specs.declared.gathered.FilterMembers.{FilterMembers}
use Rattle.tsn_wire.specs.declared.gathered.GateMembers.{GateMembers}
use Rattle.tsn_wire.specs.declared.gathered.MeterMembers.{MeterMembers}

-- the members of an object
abbrev pub members_of : Data → Members
members_of (object ms) = ms
members_of d = no_members

-- each of the members was read
abbrev pub AllTold : Rows → Members → Type 0
AllTold rows no_members = ⊤
AllTold rows (member k d ms) = (row_at k rows ≡ Some (Some d)) × AllTold rows ms

-- the names of a record's members, as the table of members has them, each with what was read there
abbrev pub rows_of_kind : Kind → List (Option Data) → Rows
rows_of_kind kind read = zip (drop 1 (names_of kind)) read

abbrev pub port_rows : PortMembers → Rows
port_rows m = rows_of_kind Port
    (option_map whole_data m.gates ∷ option_map (list_array port_entry_value) m.list ∷ option_map whole_data m.cycle ∷
    option_map whole_data m.extension ∷ option_map whole_data m.base ∷ [])

abbrev pub filter_rows : FilterMembers → Rows
filter_rows m = rows_of_kind Filter
    (option_map or_null m.handle ∷ option_map or_null m.priority ∷ option_map whole_data m.gate ∷ option_map or_null m.max_sdu ∷
    option_map or_null m.meter ∷ option_map boolean m.oversize ∷ [])

abbrev pub gate_rows : GateMembers → Rows
gate_rows m = rows_of_kind Gate
    (option_map boolean m.open ∷ option_map or_null m.ipv ∷ option_map (list_array gate_entry_value) m.list ∷
    option_map whole_data m.cycle ∷ option_map whole_data m.extension ∷ option_map whole_data m.base ∷
    option_map boolean m.invalid_rx ∷ option_map boolean m.octets_exceeded ∷ [])

abbrev pub meter_rows : MeterMembers → Rows
meter_rows m = rows_of_kind Meter
    (option_map whole_data m.cir ∷ option_map whole_data m.cbs ∷ option_map whole_data m.eir ∷ option_map whole_data m.ebs ∷
    option_map boolean m.cf ∷ option_map boolean m.aware ∷ option_map boolean m.drop_yellow ∷ option_map boolean m.all_red ∷ [])
