-- The present configuration as a setup in the plain spelling: the limits, and then a table for each record, ports before
-- filters before gates before meters, each kind by its numbers. What is null is left out, and so is a port that is as one
-- that no setup names.
use Rattle.std.specs.Prelude.{ℕ, ◌==◌, nat_le, ◌&&◌, not, Bool, true, false, if◌then◌else◌, List, [], ◌∷◌, ◌++◌, length, filter, Option, Some, None, Result, Ok, Err, codes, decimal}
use Rattle.std.specs.FinMap.{entries}
use Rattle.std.specs.List.{flat_map}
use Rattle.tsn_types.specs.Keys.{number_of}
use Rattle.tsn_types.specs.declared.keys.Key.{Key}
use Rattle.tsn_types.specs.declared.keys.Kind.{Kind}
use Rattle.tsn_types.specs.declared.keys.Kind.TheVariants as kinds
use Rattle.tsn_types.specs.declared.limits.Limits.{Limits}
use Rattle.tsn_types.specs.declared.records.FlowMeter.{FlowMeter}
use Rattle.tsn_types.specs.declared.records.GateEntry.{GateEntry}
use Rattle.tsn_types.specs.declared.records.PortEntry.{PortEntry}
use Rattle.tsn_types.specs.declared.records.PortGates.{PortGates}
use Rattle.tsn_types.specs.declared.records.Record.{Record}
use Rattle.tsn_types.specs.declared.records.Record.TheVariants.{Port, Filter, Gate, Meter}
use Rattle.tsn_types.specs.declared.records.StreamFilter.{StreamFilter}
use Rattle.tsn_types.specs.declared.records.StreamGate.{StreamGate}
use Rattle.tsn_types.specs.declared.refusals.Refusal.{Refusal}
use Rattle.tsn_types.specs.declared.refusals.Refusal.TheVariants.{TooLong}
use Rattle.tsn_config.specs.Ids.{is_of}
use Rattle.tsn_edit.specs.Configuration.{Configuration}

-- ---- which records a setup names

-- a port's record as it is where no setup names the port
abbrev pub is_default : Record → Bool
is_default (Port r) =
    r.gates == 255 && (length r.admin.list == 0 && (r.admin.cycle == 1000000 && (r.admin.extension == 0 && r.admin.base == 0)))
is_default r = false

-- the records of a kind that are named, by number
abbrev pub named_of : Kind → Configuration → List (Key × Record)
named_of kind c = filter (λ e. is_of kind e.0 && not (is_default e.1)) (entries c)

-- the records that are named
abbrev pub named : Configuration → List (Key × Record)
named c = named_of kinds.Port c ++ named_of kinds.Filter c ++ named_of kinds.Gate c ++ named_of kinds.Meter c

-- ---- their text

abbrev pub flag_text : Bool → List ℕ
flag_text true = codes "true"
flag_text false = codes "false"

-- a line of its own for each member, and none for one that is null
abbrev pub number_line : List ℕ → ℕ → List ℕ
number_line name n = name ++ codes " = " ++ decimal n ++ codes "\n"

abbrev pub number_or_none_line : List ℕ → Option ℕ → List ℕ
number_or_none_line name (Some n) = number_line name n
number_or_none_line name None = []

abbrev pub flag_line : List ℕ → Bool → List ℕ
flag_line name b = name ++ codes " = " ++ flag_text b ++ codes "\n"

-- a member of an entry, behind another
abbrev pub inner_number : List ℕ → ℕ → List ℕ
inner_number name n = codes ", " ++ name ++ codes " = " ++ decimal n

abbrev pub inner_number_or_none : List ℕ → Option ℕ → List ℕ
inner_number_or_none name (Some n) = inner_number name n
inner_number_or_none name None = []

-- `  {gates = G, interval = I},`
abbrev pub port_entry_line : PortEntry → List ℕ
port_entry_line e = codes "  {gates = " ++ decimal e.gates ++ inner_number (codes "interval") e.interval ++ codes "},\n"

-- `  {open = B, ipv = Q, interval = I, octets = O},`
abbrev pub gate_entry_line : GateEntry → List ℕ
gate_entry_line e =
    codes "  {open = " ++ flag_text e.is_open
    ++ inner_number_or_none (codes "ipv") e.ipv
    ++ inner_number (codes "interval") e.interval
    ++ inner_number_or_none (codes "octets") e.octets
    ++ codes "},\n"

-- `list = []`, or a line for each entry between the brackets
abbrev pub list_lines : {E : Type 0} → (E → List ℕ) → List E → List ℕ
list_lines entry [] = codes "list = []\n"
list_lines entry (e ∷ es) = codes "list = [\n" ++ flat_map entry (e ∷ es) ++ codes "]\n"

-- each record under a header, in the order of its members
abbrev pub port_table : ℕ → PortGates → List ℕ
port_table id r =
    codes "\n[[port]]\n"
    ++ number_line (codes "id") id
    ++ number_line (codes "gates") r.gates
    ++ list_lines port_entry_line r.admin.list
    ++ number_line (codes "cycle") r.admin.cycle
    ++ number_line (codes "extension") r.admin.extension
    ++ number_line (codes "base") r.admin.base

abbrev pub filter_table : ℕ → StreamFilter → List ℕ
filter_table id r =
    codes "\n[[filter]]\n"
    ++ number_line (codes "id") id
    ++ number_or_none_line (codes "handle") r.handle
    ++ number_or_none_line (codes "priority") r.priority
    ++ number_line (codes "gate") r.gate
    ++ number_or_none_line (codes "max_sdu") r.max_sdu
    ++ number_or_none_line (codes "meter") r.meter
    ++ flag_line (codes "oversize") r.oversize

abbrev pub gate_table : ℕ → StreamGate → List ℕ
gate_table id r =
    codes "\n[[gate]]\n"
    ++ number_line (codes "id") id
    ++ flag_line (codes "open") r.is_open
    ++ number_or_none_line (codes "ipv") r.ipv
    ++ list_lines gate_entry_line r.admin.list
    ++ number_line (codes "cycle") r.admin.cycle
    ++ number_line (codes "extension") r.admin.extension
    ++ number_line (codes "base") r.admin.base
    ++ flag_line (codes "invalid_rx") r.invalid_rx
    ++ flag_line (codes "octets_exceeded") r.octets_exceeded

abbrev pub meter_table : ℕ → FlowMeter → List ℕ
meter_table id r =
    codes "\n[[meter]]\n"
    ++ number_line (codes "id") id
    ++ number_line (codes "cir") r.cir
    ++ number_line (codes "cbs") r.cbs
    ++ number_line (codes "eir") r.eir
    ++ number_line (codes "ebs") r.ebs
    ++ flag_line (codes "cf") r.cf
    ++ flag_line (codes "aware") r.aware
    ++ flag_line (codes "drop_yellow") r.drop_yellow
    ++ flag_line (codes "all_red") r.all_red

abbrev pub table_text : Key × Record → List ℕ
table_text (k, Port r) = port_table (number_of k) r
table_text (k, Filter r) = filter_table (number_of k) r
table_text (k, Gate r) = gate_table (number_of k) r
table_text (k, Meter r) = meter_table (number_of k) r

-- all limits, also those that are the standard ones
abbrev pub limits_text : Limits → List ℕ
limits_text l =
    number_line (codes "ports") l.ports
    ++ number_line (codes "max_filters") l.filters
    ++ number_line (codes "max_gates") l.gates
    ++ number_line (codes "max_meters") l.meters
    ++ number_line (codes "list_max") l.list

-- the whole setup
abbrev pub setup_text : Limits → Configuration → List ℕ
setup_text l c = limits_text l ++ flat_map table_text (named c)

-- the bytes of the longest setup that is read
abbrev pub longest_setup : ℕ
longest_setup = 1048576

-- a setup that would be longer than one that is read is none
abbrev pub exported : Limits → Configuration → Result (List ℕ) Refusal
exported l c = if nat_le (length (setup_text l c)) longest_setup then Ok (setup_text l c) else Err TooLong
