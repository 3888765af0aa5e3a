use Rattle.tsn_spelling.proofs.Changes.{front_pieces}
use Rattle.tsn_spelling.proofs.edits.push_edit_front.Goals as goal

pub returns-clause-text : goal.returns-clause-text
returns-clause-text c =
    front_pieces c.args.word.now c.args.key _ _ _ _ c.push_word.ensures.text c.push_key_text.ensures.text c.push.ensures.text
