use Rattle.std.proofs.lemmas.Result.{on_ok_weaker}
use Rattle.tsn_spelling.proofs.Changes.{batch_line}
use Rattle.tsn_spelling.proofs.edits.put_batch.Goals as goal

pub returns-clause-ok : goal.returns-clause-ok
returns-clause-ok c = on_ok_weaker c.hand_on.result
    (batch_line c.args.session c.args.batch.now c.edits.result.now _ _ _ _ _ _ _ c.requires c.edits.ensures.edits c.push.ensures.text
    c.in_ok-put_edits.ensures.ok c.push_session.ensures) c.hand_on.ensures.ok
