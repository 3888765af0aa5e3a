-- The numbers of entries, schedules, records and keys within their ranges.
use Rattle.std.specs.Prelude.{IfSome}
use Rattle.std.specs.List.{AllByRecursion}
use Rattle.tsn_types.specs.declared.keys.Key.{Key}
use Rattle.tsn_types.specs.declared.keys.Key.TheVariants as keys
use Rattle.tsn_types.specs.declared.records.PortEntry.{PortEntry}
use Rattle.tsn_types.specs.declared.records.GateEntry.{GateEntry}
use Rattle.tsn_types.specs.declared.records.Schedule.{Schedule}
use Rattle.tsn_types.specs.declared.records.PortGates.{PortGates}
use Rattle.tsn_types.specs.declared.records.StreamGate.{StreamGate}
use Rattle.tsn_types.specs.declared.records.StreamFilter.{StreamFilter}
use Rattle.tsn_types.specs.declared.records.FlowMeter.{FlowMeter}
use Rattle.tsn_types.specs.declared.records.Record.{Record}
use Rattle.tsn_types.specs.declared.records.Record.TheVariants as records
use Rattle.tsn_types.specs.Numbers.{AreGateStates, IsBitRate, IsCycle, IsExtension, IsHandle, IsInstanceId, IsInstant, IsInterval, IsMaxSdu, IsOctets, IsPortId, IsPriority}

-- an entry of a port: the states of eight gates, for at least a nanosecond
pub record PortEntryInRange (e : PortEntry) : Type 0 where
  pub gates : AreGateStates e.gates
  pub interval : IsInterval e.interval

-- an entry of a stream gate: an internal priority value or none, for at least a nanosecond, with a bound of octets or none
pub record GateEntryInRange (e : GateEntry) : Type 0 where
  pub ipv : IfSome e.ipv IsPriority
  pub interval : IsInterval e.interval
  pub octets : IfSome e.octets IsOctets

-- a list whose entries are in range, and its times
pub record ScheduleInRange {E : Type 0} (EntryInRange : E → Type 0) (s : Schedule E) : Type 0 where
  pub list : AllByRecursion EntryInRange s.list
  pub cycle : IsCycle s.cycle
  pub extension : IsExtension s.extension
  pub base : IsInstant s.base

-- the gate parameters of a port
pub record PortInRange (r : PortGates) : Type 0 where
  pub gates : AreGateStates r.gates
  pub admin : ScheduleInRange PortEntryInRange r.admin

-- a stream gate
pub record GateInRange (r : StreamGate) : Type 0 where
  pub ipv : IfSome r.ipv IsPriority
  pub admin : ScheduleInRange GateEntryInRange r.admin

-- a stream filter: none stands for any handle, any priority, no greatest size and no meter
pub record FilterInRange (r : StreamFilter) : Type 0 where
  pub handle : IfSome r.handle IsHandle
  pub priority : IfSome r.priority IsPriority
  pub gate : IsInstanceId r.gate
  pub max_sdu : IfSome r.max_sdu IsMaxSdu
  pub meter : IfSome r.meter IsInstanceId

-- a flow meter: two rates and two burst sizes
pub record MeterInRange (r : FlowMeter) : Type 0 where
  pub cir : IsBitRate r.cir
  pub cbs : IsOctets r.cbs
  pub eir : IsBitRate r.eir
  pub ebs : IsOctets r.ebs

-- every number of the record is in its range
abbrev pub RecordInRange : Record → Type 0
RecordInRange (records.Port r) = PortInRange r
RecordInRange (records.Filter r) = FilterInRange r
RecordInRange (records.Gate r) = GateInRange r
RecordInRange (records.Meter r) = MeterInRange r

-- a key and a record of its kind, with every number in its range
abbrev pub KeyedInRange : Key → Record → Type 0
KeyedInRange (keys.Port n) (records.Port r) = IsPortId n × PortInRange r
KeyedInRange (keys.Filter n) (records.Filter r) = IsInstanceId n × FilterInRange r
KeyedInRange (keys.Gate n) (records.Gate r) = IsInstanceId n × GateInRange r
KeyedInRange (keys.Meter n) (records.Meter r) = IsInstanceId n × MeterInRange r
KeyedInRange k r = ⊥
