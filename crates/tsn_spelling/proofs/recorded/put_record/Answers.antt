use Rattle.std.specs.Prelude.{codes}
use Rattle.tsn_records.specs.Shown.{gate_entry_data, port_entry_data}
use Rattle.tsn_encoding.specs.Pieces.{gate_end, gate_front, port_front}
use Rattle.tsn_encoding.proofs.Pieces.{gate_text, port_text}
use Rattle.tsn_spelling.proofs.Records.{record_pieces}
use Rattle.tsn_spelling.proofs.recorded.put_record.Goals as goal

pub returns-in_ok-put_items-in-Port-clause-ok : goal.returns-in_ok-put_items-in-Port-clause-ok
returns-in_ok-put_items-in-Port-clause-ok c =
    let port = c.in-Port.port in
    rw c.in-Port.is (record_pieces port_entry_data (port_front port) (codes "}") _ c.as_slice.result.now port.admin.list _ _ _ _ _ _
    c.as_slice.ensures (port_text port) c.push_port_front.ensures.text c.in_ok-put_items-in-Port.ensures.ok c.push.ensures.text)

pub returns-in_ok-put_items-in-Gate-clause-ok : goal.returns-in_ok-put_items-in-Gate-clause-ok
returns-in_ok-put_items-in-Gate-clause-ok c =
    let gate = c.in-Gate.gate in
    rw c.in-Gate.is (record_pieces gate_entry_data (gate_front gate) (gate_end gate) _ c.as_slice-in-Gate.result.now gate.admin.list
    _ _ _ _ _ _ c.as_slice-in-Gate.ensures (gate_text gate) c.push_gate_front.ensures.text c.in_ok-put_items-in-Gate.ensures.ok
    c.push_gate_end.ensures.text)
