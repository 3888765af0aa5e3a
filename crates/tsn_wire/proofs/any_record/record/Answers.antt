use Rattle.std.proofs.Common.{refl}
use Rattle.tsn_records.specs.declared.drafts.RecordDraft.TheVariants as records
use Rattle.tsn_wire.proofs.Gathering.{draft_read}
use Rattle.tsn_wire.proofs.any_record.record.Goals as goal

pub returns-in_ok-port_of-in-Port : goal.returns-in_ok-port_of-in-Port
returns-in_ok-port_of-in-Port c =
    draft_read _ _ _ _ (records.Port _) c.in_ok-exactly-in-Port.ensures c.in_ok-port_of-in-Port.ensures refl

pub returns-in_ok-filter_of-in-Filter : goal.returns-in_ok-filter_of-in-Filter
returns-in_ok-filter_of-in-Filter c =
    draft_read _ _ _ _ (records.Filter _) c.in_ok-exactly-in-Filter.ensures c.in_ok-filter_of-in-Filter.ensures refl

pub returns-in_ok-gate_of-in-Gate : goal.returns-in_ok-gate_of-in-Gate
returns-in_ok-gate_of-in-Gate c =
    draft_read _ _ _ _ (records.Gate _) c.in_ok-exactly-in-Gate.ensures c.in_ok-gate_of-in-Gate.ensures refl

pub returns-in_ok-meter_of-in-Meter : goal.returns-in_ok-meter_of-in-Meter
returns-in_ok-meter_of-in-Meter c =
    draft_read _ _ _ _ (records.Meter _) c.in_ok-exactly-in-Meter.ensures c.in_ok-meter_of-in-Meter.ensures refl
