use Rattle.tsn_encoding.proofs.Telling.{settled_pieces}
use Rattle.tsn_encoding.proofs.told.push_settled.Goals as goal

pub returns-clause-text : goal.returns-clause-text
returns-clause-text c =
    settled_pieces c.args.number c.args.session c.args.upto _ _ _ _ _ c.push_number.ensures.text
    (rw c.from.ensures at c.push_number-2.ensures.text) c.push_number-3.ensures.text c.push.ensures.text
