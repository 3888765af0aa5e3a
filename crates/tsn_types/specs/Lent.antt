-- A record that is lent, as the record.
use Rattle.tsn_types.specs.declared.records.Record.{Record}
use Rattle.tsn_types.specs.declared.records.Record.TheVariants.{Port as PortRecord, Filter as FilterRecord, Gate as GateRecord, Meter as MeterRecord}
use Rattle.tsn_types.specs.declared.records.RecordRef.{RecordRef}
use Rattle.tsn_types.specs.declared.records.RecordRef.TheVariants.{Port, Filter, Gate, Meter}

-- the record that is lent
abbrev pub lent_record : RecordRef → Record
lent_record (Port r) = PortRecord r.now
lent_record (Filter r) = FilterRecord r.now
lent_record (Gate r) = GateRecord r.now
lent_record (Meter r) = MeterRecord r.now
