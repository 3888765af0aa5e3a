-- The ranges of numbers, tested in the order of the members; the first number outside its range is named.
use Rattle.std.specs.Prelude.{ℕ, ◌&&◌, nat_le, if◌then◌else◌, Option, Some, None, Result, Ok, Err}
use Rattle.tsn_types.specs.declared.keys.Key.{Key}
use Rattle.tsn_types.specs.declared.keys.Key.TheVariants as keys
use Rattle.tsn_types.specs.declared.keys.Kind.{Kind}
use Rattle.tsn_types.specs.declared.keys.Kind.TheVariants as kinds
use Rattle.tsn_types.specs.declared.records.PortEntry.{PortEntry}
use Rattle.tsn_types.specs.declared.records.GateEntry.{GateEntry}
use Rattle.tsn_types.specs.declared.records.Schedule.{Schedule}
use Rattle.tsn_types.specs.declared.records.PortGates.{PortGates}
use Rattle.tsn_types.specs.declared.records.StreamGate.{StreamGate}
use Rattle.tsn_types.specs.declared.records.StreamFilter.{StreamFilter}
use Rattle.tsn_types.specs.declared.records.FlowMeter.{FlowMeter}
use Rattle.tsn_types.specs.declared.records.Record.{Record}
use Rattle.tsn_types.specs.declared.records.Record.TheVariants as records
use Rattle.tsn_types.specs.declared.refusals.Field.{Field}
use Rattle.tsn_types.specs.declared.refusals.Field.TheVariants as fields
use Rattle.tsn_types.specs.Numbers.{greatest_bit_rate, greatest_gate_states, greatest_handle, greatest_instance, greatest_instant, greatest_max_sdu, greatest_priority, longest_cycle, longest_extension, longest_interval, most_octets, most_ports}
use Rattle.tsn_records.specs.Answers.{◌>>=◌, each}
use Rattle.tsn_records.specs.declared.drafts.PortEntryDraft.{PortEntryDraft}
use Rattle.tsn_records.specs.declared.drafts.GateEntryDraft.{GateEntryDraft}
use Rattle.tsn_records.specs.declared.drafts.ScheduleDraft.{ScheduleDraft}
use Rattle.tsn_records.specs.declared.drafts.PortDraft.{PortDraft}
use Rattle.tsn_records.specs.declared.drafts.GateDraft.{GateDraft}
use Rattle.tsn_records.specs.declared.drafts.FilterDraft.{FilterDraft}
use Rattle.tsn_records.specs.declared.drafts.MeterDraft.{MeterDraft}
use Rattle.tsn_records.specs.declared.drafts.RecordDraft.{RecordDraft}
use Rattle.tsn_records.specs.declared.drafts.RecordDraft.TheVariants as drafts
use Rattle.tsn_records.specs.declared.drafts.KeyDraft.{KeyDraft}
use Rattle.tsn_records.specs.declared.unread.Unread.{Unread}
use Rattle.tsn_records.specs.declared.unread.Unread.TheVariants.{Range}

-- a number of that range, or the member that is outside it
abbrev pub within : Field → ℕ → ℕ → ℕ → Result ℕ Unread
within field least most n = if nat_le least n && nat_le n most then Ok n else Err (Range field)

-- the same, where there may be none
abbrev pub within_or_none : Field → ℕ → ℕ → Option ℕ → Result (Option ℕ) Unread
within_or_none field least most None = Ok None
within_or_none field least most (Some n) = within field least most n >>= λ m. Ok (Some m)

-- `[gates, interval]`: a fault inside an entry is one of the list
unfoldable pub port_entry : PortEntryDraft → Result PortEntry Unread
port_entry e = do
  gates ← within fields.List 0 greatest_gate_states e.gates
  interval ← within fields.List 1 longest_interval e.interval
  Ok (record { gates = gates; interval = interval })

-- `[open, ipv, interval, octets]`
unfoldable pub gate_entry : GateEntryDraft → Result GateEntry Unread
gate_entry e = do
  ipv ← within_or_none fields.List 0 greatest_priority e.ipv
  interval ← within fields.List 1 longest_interval e.interval
  octets ← within_or_none fields.List 0 most_octets e.octets
  Ok (record { is_open = e.is_open; ipv = ipv; interval = interval; octets = octets })

-- AdminControlList, AdminCycleTime, AdminCycleTimeExtension, AdminBaseTime
unfoldable pub schedule : {D E : Type 0} → (D → Result E Unread) → ScheduleDraft D → Result (Schedule E) Unread
schedule entry s = do
  list ← each entry s.list
  cycle ← within fields.Cycle 1 longest_cycle s.cycle
  extension ← within fields.Extension 0 longest_extension s.extension
  base ← within fields.Base 0 greatest_instant s.base
  Ok (record { list = list; cycle = cycle; extension = extension; base = base })

unfoldable pub port : PortDraft → Result PortGates Unread
port p = do
  gates ← within fields.Gates 0 greatest_gate_states p.gates
  admin ← schedule port_entry p.admin
  Ok (record { gates = gates; admin = admin })

unfoldable pub gate : GateDraft → Result StreamGate Unread
gate g = do
  ipv ← within_or_none fields.Ipv 0 greatest_priority g.ipv
  admin ← schedule gate_entry g.admin
  Ok (record { is_open = g.is_open; ipv = ipv; invalid_rx = g.invalid_rx; octets_exceeded = g.octets_exceeded; admin = admin })

unfoldable pub filter : FilterDraft → Result StreamFilter Unread
filter f = do
  handle ← within_or_none fields.Handle 0 greatest_handle f.handle
  priority ← within_or_none fields.Priority 0 greatest_priority f.priority
  gate ← within fields.Gate 0 greatest_instance f.gate
  max_sdu ← within_or_none fields.MaxSdu 1 greatest_max_sdu f.max_sdu
  meter ← within_or_none fields.Meter 0 greatest_instance f.meter
  Ok (record { handle = handle; priority = priority; gate = gate; max_sdu = max_sdu; meter = meter; oversize = f.oversize })

unfoldable pub meter : MeterDraft → Result FlowMeter Unread
meter m = do
  cir ← within fields.Cir 0 greatest_bit_rate m.cir
  cbs ← within fields.Cbs 0 most_octets m.cbs
  eir ← within fields.Eir 0 greatest_bit_rate m.eir
  ebs ← within fields.Ebs 0 most_octets m.ebs
  Ok (record { cir = cir; cbs = cbs; eir = eir; ebs = ebs; cf = m.cf; aware = m.aware; drop_yellow = m.drop_yellow; all_red = m.all_red })

-- a record of each kind
abbrev pub record_of : RecordDraft → Result Record Unread
record_of (drafts.Port p) = port p >>= λ r. Ok (records.Port r)
record_of (drafts.Filter f) = filter f >>= λ r. Ok (records.Filter r)
record_of (drafts.Gate g) = gate g >>= λ r. Ok (records.Gate r)
record_of (drafts.Meter m) = meter m >>= λ r. Ok (records.Meter r)

-- ports are numbered from 1 to 64, the others from 0 to 65,535
abbrev pub key_of_kind : Kind → ℕ → Result Key Unread
key_of_kind kinds.Port n = within fields.Key 1 most_ports n >>= λ m. Ok (keys.Port m)
key_of_kind kinds.Filter n = within fields.Key 0 greatest_instance n >>= λ m. Ok (keys.Filter m)
key_of_kind kinds.Gate n = within fields.Key 0 greatest_instance n >>= λ m. Ok (keys.Gate m)
key_of_kind kinds.Meter n = within fields.Key 0 greatest_instance n >>= λ m. Ok (keys.Meter m)

abbrev pub key : KeyDraft → Result Key Unread
key k = key_of_kind k.kind k.number
