use Rattle.tsn_encoding.proofs.Telling.{acted_pieces}
use Rattle.tsn_encoding.proofs.told.push_acted.Goals as goal

pub returns-clause-text : goal.returns-clause-text
returns-clause-text c =
    acted_pieces c.args.number c.args.session c.args.act c.args.key c.args.now _ _ _ _ _ _ _
    (rw c.act_front.ensures.text at c.push_copied.ensures.text) c.push_number.ensures.text c.push_key_text.ensures.text
    c.push_number-2.ensures.text (rw c.from.ensures at c.push_number-3.ensures.text) c.push.ensures.text
