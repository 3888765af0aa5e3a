use Rattle.tsn_undo.proofs.Redone.{redo_names}
use Rattle.tsn_undo.proofs.laws.redo_has_an_entry_to_name.Goals as goal

pub returns : goal.returns
returns c b session undone sound is not_fits = redo_names b.limits b.opening b.entries session undone sound is not_fits
