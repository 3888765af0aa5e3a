use Rattle.tsn_wire.proofs.Gathering.{edit_read}
use Rattle.tsn_wire.proofs.any_edits.any_edit.Goals as goal

pub returns : goal.returns
returns c = edit_read _ _ _ _ c.edit_of.result c.in_ok-count.ensures c.edit_of.ensures
