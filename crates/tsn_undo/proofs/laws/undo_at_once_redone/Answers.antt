use Rattle.tsn_undo.proofs.Named.{redone_at_once}
use Rattle.tsn_undo.proofs.laws.undo_at_once_redone.Goals as goal

pub returns : goal.returns
returns c = redone_at_once
