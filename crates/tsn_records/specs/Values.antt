-- The members of a record as values, in the order of the table of members: which of them is which.
use Rattle.std.specs.Prelude.{ℕ, ◌+◌, List, [], ◌∷◌, Bool, false, Option, Some, None, map, slice_get, ⊤}
use Rattle.tsn_records.specs.declared.allowed.Allowed.{Allowed}
use Rattle.tsn_records.specs.declared.allowed.Allowed.TheVariants as allowed
use Rattle.tsn_types.specs.declared.keys.Kind.{Kind}
use Rattle.tsn_types.specs.declared.keys.Kind.TheVariants as kinds
use Rattle.tsn_types.specs.declared.records.PortEntry.{PortEntry}
use Rattle.tsn_types.specs.declared.records.GateEntry.{GateEntry}
use Rattle.tsn_types.specs.declared.records.Schedule.{Schedule}
use Rattle.tsn_types.specs.declared.records.PortGates.{PortGates}
use Rattle.tsn_types.specs.declared.records.StreamGate.{StreamGate}
use Rattle.tsn_types.specs.declared.records.StreamFilter.{StreamFilter}
use Rattle.tsn_types.specs.declared.records.FlowMeter.{FlowMeter}
use Rattle.tsn_types.specs.declared.records.Record.{Record}
use Rattle.tsn_types.specs.declared.records.Record.TheVariants as records
use Rattle.tsn_records.specs.declared.drafts.GateEntryDraft.{GateEntryDraft}
use Rattle.tsn_records.specs.declared.drafts.MemberDraft.{MemberDraft}
use Rattle.tsn_records.specs.declared.drafts.MemberDraft.TheVariants.{Unread, Number, Maybe, Flag, PortList, GateList}
use Rattle.tsn_records.specs.declared.drafts.PortEntryDraft.{PortEntryDraft}
use Rattle.tsn_records.specs.declared.drafts.RecordDraft.{RecordDraft}
use Rattle.tsn_records.specs.declared.drafts.RecordDraft.TheVariants.{Port, Filter, Gate, Meter}
use Rattle.tsn_records.specs.declared.drafts.ScheduleDraft.{ScheduleDraft}
use Rattle.tsn_records.specs.declared.drafts.PortDraft.{PortDraft}
use Rattle.tsn_records.specs.declared.drafts.GateDraft.{GateDraft}
use Rattle.tsn_records.specs.declared.drafts.FilterDraft.{FilterDraft}
use Rattle.tsn_records.specs.declared.drafts.MeterDraft.{MeterDraft}

-- how many members a record has at most
abbrev pub most_members : ℕ
most_members = 8

-- what a member holds, where it is of the kind that is wanted
abbrev pub number_in : MemberDraft → ℕ
number_in (Number n) = n
number_in v = 0

abbrev pub number_or_none_in : MemberDraft → Option ℕ
number_or_none_in (Maybe o) = o
number_or_none_in v = None

abbrev pub flag_in : MemberDraft → Bool
flag_in (Flag b) = b
flag_in v = false

abbrev pub entries_of_port : MemberDraft → List PortEntryDraft
entries_of_port (PortList es) = es
entries_of_port v = []

abbrev pub entries_of_gate : MemberDraft → List GateEntryDraft
entries_of_gate (GateList es) = es
entries_of_gate v = []

-- the member at a place
abbrev pub or_unread : Option MemberDraft → MemberDraft
or_unread None = Unread
or_unread (Some v) = v

abbrev pub value_at : ℕ → List MemberDraft → MemberDraft
value_at i vs = or_unread (slice_get vs i)

-- what the member at a place holds
abbrev number_at : ℕ → List MemberDraft → ℕ
number_at i vs = number_in (value_at i vs)

abbrev maybe_at : ℕ → List MemberDraft → Option ℕ
maybe_at i vs = number_or_none_in (value_at i vs)

abbrev flag_at : ℕ → List MemberDraft → Bool
flag_at i vs = flag_in (value_at i vs)

-- the schedule of those entries, whose times are the members from a place on
abbrev schedule_at : {E : Type 0} → List E → ℕ → List MemberDraft → ScheduleDraft E
schedule_at list i vs = record { list = list; cycle = number_at i vs; extension = number_at (i + 1) vs; base = number_at (i + 2) vs }

-- the record of a kind that has these members
unfoldable pub typed : Kind → List MemberDraft → RecordDraft
typed kinds.Port vs = Port (record { gates = number_at 0 vs; admin = schedule_at (entries_of_port (value_at 1 vs)) 2 vs })
typed kinds.Filter vs = Filter (record {
  handle = maybe_at 0 vs;
  priority = maybe_at 1 vs;
  gate = number_at 2 vs;
  max_sdu = maybe_at 3 vs;
  meter = maybe_at 4 vs;
  oversize = flag_at 5 vs;
})
typed kinds.Gate vs = Gate (record {
  is_open = flag_at 0 vs;
  ipv = maybe_at 1 vs;
  admin = schedule_at (entries_of_gate (value_at 2 vs)) 3 vs;
  invalid_rx = flag_at 6 vs;
  octets_exceeded = flag_at 7 vs;
})
typed kinds.Meter vs = Meter (record {
  cir = number_at 0 vs;
  cbs = number_at 1 vs;
  eir = number_at 2 vs;
  ebs = number_at 3 vs;
  cf = flag_at 4 vs;
  aware = flag_at 5 vs;
  drop_yellow = flag_at 6 vs;
  all_red = flag_at 7 vs;
})

-- the kind of a record
abbrev pub kind_of_draft : RecordDraft → Kind
kind_of_draft (Port r) = kinds.Port
kind_of_draft (Filter r) = kinds.Filter
kind_of_draft (Gate r) = kinds.Gate
kind_of_draft (Meter r) = kinds.Meter

-- its members, in the order of the table
abbrev pub values_of : RecordDraft → List MemberDraft
values_of (Port r) =
    Number r.gates ∷ PortList r.admin.list ∷ Number r.admin.cycle ∷ Number r.admin.extension ∷ Number r.admin.base ∷ []
values_of (Filter r) =
    Maybe r.handle ∷ Maybe r.priority ∷ Number r.gate ∷ Maybe r.max_sdu ∷ Maybe r.meter ∷ Flag r.oversize ∷ []
values_of (Gate r) =
    Flag r.is_open ∷ Maybe r.ipv ∷ GateList r.admin.list ∷ Number r.admin.cycle ∷ Number r.admin.extension ∷ Number r.admin.base ∷
    Flag r.invalid_rx ∷ Flag r.octets_exceeded ∷ []
values_of (Meter r) =
    Number r.cir ∷ Number r.cbs ∷ Number r.eir ∷ Number r.ebs ∷ Flag r.cf ∷ Flag r.aware ∷ Flag r.drop_yellow ∷ Flag r.all_red ∷ []

-- a member is a number, a number or none, a flag, or a list of a kind's entries
abbrev pub IsNumber : MemberDraft → Type 0
IsNumber (Number n) = ⊤
IsNumber v = ⊥

abbrev pub IsMaybe : MemberDraft → Type 0
IsMaybe (Maybe o) = ⊤
IsMaybe v = ⊥

abbrev pub IsFlag : MemberDraft → Type 0
IsFlag (Flag b) = ⊤
IsFlag v = ⊥

abbrev pub IsListOf : Kind → MemberDraft → Type 0
IsListOf kinds.Port (PortList es) = ⊤
IsListOf kinds.Gate (GateList es) = ⊤
IsListOf kind v = ⊥

-- a member is such as its row of the table wants it
abbrev pub Fits : Kind → Allowed → MemberDraft → Type 0
Fits kind (allowed.Number least most) v = IsNumber v
Fits kind (allowed.NumberOrNone least most) v = IsMaybe v
Fits kind allowed.Flag v = IsFlag v
Fits kind (allowed.List most) v = IsListOf kind v
Fits kind allowed.Tables v = ⊥

-- and so are all of them
abbrev pub AllFit : Kind → List (List ℕ × Allowed) → List MemberDraft → Type 0
AllFit kind [] [] = ⊤
AllFit kind (row ∷ rows) (v ∷ vs) = Fits kind row.1 v × AllFit kind rows vs
AllFit kind rows vs = ⊥

-- ---- records as a text names them: the draft of each

abbrev pub port_entry_draft : PortEntry → PortEntryDraft
port_entry_draft e = record { gates = e.gates; interval = e.interval }

abbrev pub gate_entry_draft : GateEntry → GateEntryDraft
gate_entry_draft e = record { is_open = e.is_open; ipv = e.ipv; interval = e.interval; octets = e.octets }

abbrev pub schedule_draft : {D E : Type 0} → (E → D) → Schedule E → ScheduleDraft D
schedule_draft draft s = record { list = map draft s.list; cycle = s.cycle; extension = s.extension; base = s.base }

abbrev pub port_draft : PortGates → PortDraft
port_draft r = record { gates = r.gates; admin = schedule_draft port_entry_draft r.admin }

abbrev pub gate_draft : StreamGate → GateDraft
gate_draft r = record {
  is_open = r.is_open;
  ipv = r.ipv;
  admin = schedule_draft gate_entry_draft r.admin;
  invalid_rx = r.invalid_rx;
  octets_exceeded = r.octets_exceeded;
}

abbrev pub filter_draft : StreamFilter → FilterDraft
filter_draft r =
    record { handle = r.handle; priority = r.priority; gate = r.gate; max_sdu = r.max_sdu; meter = r.meter; oversize = r.oversize }

abbrev pub meter_draft : FlowMeter → MeterDraft
meter_draft m = record
    { cir = m.cir; cbs = m.cbs; eir = m.eir; ebs = m.ebs; cf = m.cf; aware = m.aware; drop_yellow = m.drop_yellow; all_red = m.all_red }

abbrev pub record_draft : Record → RecordDraft
record_draft (records.Port r) = Port (port_draft r)
record_draft (records.Filter r) = Filter (filter_draft r)
record_draft (records.Gate r) = Gate (gate_draft r)
record_draft (records.Meter r) = Meter (meter_draft r)
