-- Records as JSON values, as they are shown.
use Rattle.std.specs.Prelude.{ℕ, Bool, List, [], ◌∷◌, map, Option, Some, None}
use Rattle.serde_json.specs.Data.{Data, null, boolean, number, unsigned, array, object, no_items, item, Members, no_members, put}
use Rattle.serde_json.specs.View.{items_of}
use Rattle.tsn_types.specs.declared.keys.Kind.{Kind}
use Rattle.tsn_types.specs.declared.keys.Kind.TheVariants as kinds
use Rattle.tsn_types.specs.declared.records.PortEntry.{PortEntry}
use Rattle.tsn_types.specs.declared.records.GateEntry.{GateEntry}
use Rattle.tsn_types.specs.declared.records.PortGates.{PortGates}
use Rattle.tsn_types.specs.declared.records.StreamGate.{StreamGate}
use Rattle.tsn_types.specs.declared.records.StreamFilter.{StreamFilter}
use Rattle.tsn_types.specs.declared.records.FlowMeter.{FlowMeter}
use Rattle.tsn_types.specs.declared.records.Record.{Record}
use Rattle.tsn_types.specs.declared.records.Record.TheVariants.{Port, Filter, Gate, Meter}
use Rattle.tsn_records.specs.Members.{rows_of}
use Rattle.tsn_records.specs.Values.{kind_of_draft, values_of}
use Rattle.tsn_records.specs.declared.allowed.Allowed.{Allowed}
use Rattle.tsn_records.specs.declared.drafts.GateEntryDraft.{GateEntryDraft}
use Rattle.tsn_records.specs.declared.drafts.MemberDraft.{MemberDraft}
use Rattle.tsn_records.specs.declared.drafts.MemberDraft.TheVariants.{Unread, Number, Maybe, Flag, PortList, GateList}
use Rattle.tsn_records.specs.declared.drafts.PortEntryDraft.{PortEntryDraft}
use Rattle.tsn_records.specs.declared.drafts.RecordDraft.{RecordDraft}

-- a whole number
abbrev pub whole_data : ℕ → Data
whole_data n = number (unsigned n)

-- null for none
abbrev pub or_null : Option ℕ → Data
or_null None = null
or_null (Some n) = whole_data n

-- `[gates, interval]`
abbrev pub port_entry_array : ℕ → ℕ → Data
port_entry_array gates interval = array (item (whole_data gates) (item (whole_data interval) no_items))

-- `[open, ipv, interval, octets]`
abbrev pub gate_entry_array : Bool → Option ℕ → ℕ → Option ℕ → Data
gate_entry_array is_open ipv interval octets =
    array (item (boolean is_open) (item (or_null ipv) (item (whole_data interval) (item (or_null octets) no_items))))

abbrev pub list_array : {E : Type 0} → (E → Data) → List E → Data
list_array entry es = array (items_of (map entry es))

-- each value under its name; an object has them in ascending order of their names
abbrev pub named : List (List ℕ × Allowed) → List Data → Members
named [] ds = no_members
named (row ∷ rows) [] = no_members
named (row ∷ rows) (d ∷ ds) = put row.0 d (named rows ds)

-- a record of that kind, whose members have these values, in the order of the table of members
abbrev pub object_of : Kind → List Data → Data
object_of kind ds = object (named (rows_of kind) ds)

-- A record and its entries.
abbrev pub port_entry_data : PortEntry → Data
port_entry_data e = port_entry_array e.gates e.interval

abbrev pub gate_entry_data : GateEntry → Data
gate_entry_data e = gate_entry_array e.is_open e.ipv e.interval e.octets

abbrev pub port_data : PortGates → Data
port_data r = object_of kinds.Port
    (whole_data r.gates ∷ list_array port_entry_data r.admin.list ∷ whole_data r.admin.cycle ∷ whole_data r.admin.extension ∷
    whole_data r.admin.base ∷ [])

abbrev pub filter_data : StreamFilter → Data
filter_data r = object_of kinds.Filter
    (or_null r.handle ∷ or_null r.priority ∷ whole_data r.gate ∷ or_null r.max_sdu ∷ or_null r.meter ∷ boolean r.oversize ∷ [])

abbrev pub gate_data : StreamGate → Data
gate_data r = object_of kinds.Gate
    (boolean r.is_open ∷ or_null r.ipv ∷ list_array gate_entry_data r.admin.list ∷ whole_data r.admin.cycle ∷
    whole_data r.admin.extension ∷ whole_data r.admin.base ∷ boolean r.invalid_rx ∷ boolean r.octets_exceeded ∷ [])

abbrev pub meter_data : FlowMeter → Data
meter_data r = object_of kinds.Meter
    (whole_data r.cir ∷ whole_data r.cbs ∷ whole_data r.eir ∷ whole_data r.ebs ∷ boolean r.cf ∷ boolean r.aware ∷
    boolean r.drop_yellow ∷ boolean r.all_red ∷ [])

abbrev pub record_data : Record → Data
record_data (Port r) = port_data r
record_data (Filter r) = filter_data r
record_data (Gate r) = gate_data r
record_data (Meter r) = meter_data r

-- A draft's entries, its members, and the draft itself.
abbrev pub port_entry_value : PortEntryDraft → Data
port_entry_value e = port_entry_array e.gates e.interval

abbrev pub gate_entry_value : GateEntryDraft → Data
gate_entry_value e = gate_entry_array e.is_open e.ipv e.interval e.octets

abbrev pub member_data : MemberDraft → Data
member_data Unread = null
member_data (Number n) = whole_data n
member_data (Maybe o) = or_null o
member_data (Flag b) = boolean b
member_data (PortList es) = list_array port_entry_value es
member_data (GateList es) = list_array gate_entry_value es

abbrev pub draft_data : RecordDraft → Data
draft_data r = object_of (kind_of_draft r) (map member_data (values_of r))
