use Rattle.tsn_encoding.proofs.Pieces.{gate_pieces}
use Rattle.tsn_encoding.proofs.shown.push_gate_front.Goals as goal

pub returns-clause-text : goal.returns-clause-text
returns-clause-text c =
    gate_pieces c.args.gate.now _ _ _ _ _ _ _
    (rw c.get.ensures.same at c.push_number.ensures.text) (rw c.get-2.ensures.same at c.push_number-2.ensures.text)
    (rw c.get-3.ensures.same at c.push_number-3.ensures.text) c.push_flag.ensures.text
    (rw c.plain_priority.ensures at c.push_or_null.ensures.text) c.push.ensures.text
