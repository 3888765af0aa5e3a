use Rattle.tsn_undo.proofs.AtOnce.{free_at_once}
use Rattle.tsn_undo.proofs.laws.undo_at_once_is_free.Goals as goal

pub returns : goal.returns
returns c = free_at_once
