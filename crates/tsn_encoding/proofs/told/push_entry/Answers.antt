use Rattle.tsn_encoding.proofs.Telling.{redone_pieces, undone_pieces}
use Rattle.tsn_encoding.proofs.told.push_entry.Goals as goal

pub returns-in-Undone-clause-text : goal.returns-in-Undone-clause-text
returns-in-Undone-clause-text c =
    rw c.in-Undone.is (undone_pieces _ _ _ _ _ _ _ c.push_taking_back.ensures.text c.push.ensures.text)

pub returns-in-Redone-clause-text : goal.returns-in-Redone-clause-text
returns-in-Redone-clause-text c =
    rw c.in-Redone.is (redone_pieces _ _ _ _ _ _ _ c.push_taking_back-in-Redone.ensures.text c.push-in-Redone.ensures.text)
