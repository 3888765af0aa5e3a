use Rattle.tsn_wire.proofs.SpelledEdits.{edit_spelled}
use Rattle.tsn_wire.proofs.spelled_batch.edit.Goals as goal

pub returns : goal.returns
returns c =
    edit_spelled c.in_ok-edit.edit c.args.text.now c.expect.new.self c.spelled_edit.new.text c.expect-2.new.self
    c.in_ok-expect.ensures c.in_ok-edit.ensures c.in_ok-expect-2.ensures
