use Rattle.tsn_edit.specs.Changes.{keys_of}
use Rattle.tsn_encoding.proofs.Telling.{taking_back_pieces}
use Rattle.tsn_encoding.proofs.told.push_taking_back.Goals as goal

pub returns-clause-text : goal.returns-clause-text
returns-clause-text c =
    taking_back_pieces c.args.number c.args.session c.args.of (keys_of c.args.change.now) _ _ _ _ _ c.push_number.ensures.text
    c.push_keys.ensures.text c.push_number-2.ensures.text (rw c.from.ensures at c.push_number-3.ensures.text)
