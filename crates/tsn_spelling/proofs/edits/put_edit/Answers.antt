use Rattle.std.proofs.lemmas.Result.{on_ok_weaker}
use Rattle.tsn_records.specs.Shown.{record_data}
use Rattle.tsn_spelling.proofs.Changes.{edit_line}
use Rattle.tsn_spelling.proofs.edits.put_edit.Goals as goal

pub returns-clause-ok : goal.returns-clause-ok
returns-clause-ok c = on_ok_weaker c.hand_on.result
    (edit_line c.args.word.now c.args.key (record_data c.args.value.now) c.args.session _ _ _ _ _ _ _ c.requires.empty
    c.push_edit_front.ensures.text c.in_ok-put_record.ensures.ok c.push_session.ensures) c.hand_on.ensures.ok
