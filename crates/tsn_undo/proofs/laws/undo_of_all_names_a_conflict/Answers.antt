use Rattle.tsn_undo.proofs.Named.{names_conflict}
use Rattle.tsn_undo.proofs.laws.undo_of_all_names_a_conflict.Goals as goal

pub returns : goal.returns
returns c = names_conflict
