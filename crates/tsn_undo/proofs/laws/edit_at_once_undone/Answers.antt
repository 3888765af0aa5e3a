use Rattle.tsn_undo.proofs.AtOnce.{undone_at_once}
use Rattle.tsn_undo.proofs.laws.edit_at_once_undone.Goals as goal

pub returns : goal.returns
returns c = undone_at_once
