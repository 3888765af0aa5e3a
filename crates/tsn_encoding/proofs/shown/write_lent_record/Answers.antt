use Rattle.std.proofs.Common.{subst, refl}
use Rattle.std.specs.Io.KnownBytes.{Appends}
use Rattle.std.proofs.lemmas.Result.{on_ok_weaker, on_err_weaker}
use Rattle.tsn_bytes.specs.Bytes.{IsCut}
use Rattle.tsn_encoding.proofs.Pieces.{gate_line, port_line}
use Rattle.tsn_encoding.proofs.shown.write_lent_record.Goals as goal

pub returns-in-Port-clause-ok : goal.returns-in-Port-clause-ok
returns-in-Port-clause-ok g c = rw c.in-Port.is (on_ok_weaker c.write_listed.result
    (subst (Appends _ _) (port_line c.args.key c.in-Port.port.now c.push_key_front.new.text c.push_port_front.new.text _
    c.as_slice.result.now c.as_slice.ensures c.push_key_front.ensures.text c.push_port_front.ensures.text refl)) c.write_listed.ensures.ok)

pub returns-in-Port-clause-cut : goal.returns-in-Port-clause-cut
returns-in-Port-clause-cut g c = rw c.in-Port.is (on_err_weaker c.write_listed.result
    (subst (IsCut _ _) (port_line c.args.key c.in-Port.port.now c.push_key_front.new.text c.push_port_front.new.text _
    c.as_slice.result.now c.as_slice.ensures c.push_key_front.ensures.text c.push_port_front.ensures.text refl)) c.write_listed.ensures.cut)

pub returns-in-Gate-clause-ok : goal.returns-in-Gate-clause-ok
returns-in-Gate-clause-ok g c = rw c.in-Gate.is (on_ok_weaker c.write_listed-in-Gate.result
    (subst (Appends _ _) (gate_line c.args.key c.in-Gate.gate.now c.push_key_front-in-Gate.new.text c.push_gate_front.new.text _
    c.as_slice-in-Gate.result.now c.as_slice-in-Gate.ensures c.push_key_front-in-Gate.ensures.text c.push_gate_front.ensures.text
    c.gate_rest.ensures.text)) c.write_listed-in-Gate.ensures.ok)

pub returns-in-Gate-clause-cut : goal.returns-in-Gate-clause-cut
returns-in-Gate-clause-cut g c = rw c.in-Gate.is (on_err_weaker c.write_listed-in-Gate.result
    (subst (IsCut _ _) (gate_line c.args.key c.in-Gate.gate.now c.push_key_front-in-Gate.new.text c.push_gate_front.new.text _
    c.as_slice-in-Gate.result.now c.as_slice-in-Gate.ensures c.push_key_front-in-Gate.ensures.text c.push_gate_front.ensures.text
    c.gate_rest.ensures.text)) c.write_listed-in-Gate.ensures.cut)
