use Rattle.tsn_encoding.proofs.Telling.{given_pieces}
use Rattle.tsn_encoding.proofs.sessions.push_given.Goals as goal

pub returns-clause-text : goal.returns-clause-text
returns-clause-text c =
    given_pieces c.args.given.now.name c.args.given.now.session c.args.given.now.standing _ _ _ _ _ _ c.push.ensures.text
    c.push_name_or_null.ensures.text (rw c.from.ensures at c.push_number.ensures.text) c.push_number-2.ensures.text c.push-2.ensures.text
