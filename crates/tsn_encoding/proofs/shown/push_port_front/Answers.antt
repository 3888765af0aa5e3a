use Rattle.tsn_encoding.proofs.Pieces.{port_pieces}
use Rattle.tsn_encoding.proofs.shown.push_port_front.Goals as goal

pub returns-clause-text : goal.returns-clause-text
returns-clause-text c =
    port_pieces c.args.port.now _ _ _ _ _ _
    (rw c.get.ensures.same at c.push_number.ensures.text) (rw c.get-2.ensures.same at c.push_number-2.ensures.text)
    (rw c.get-3.ensures.same at c.push_number-3.ensures.text) (rw c.from.ensures at c.push_number-4.ensures.text) c.push.ensures.text
