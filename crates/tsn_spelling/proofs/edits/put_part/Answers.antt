use Rattle.tsn_records.specs.Shown.{record_data}
use Rattle.tsn_spelling.proofs.Changes.{part_pieces}
use Rattle.tsn_spelling.proofs.edits.put_part.Goals as goal

pub returns-clause-ok : goal.returns-clause-ok
returns-clause-ok c =
    part_pieces c.args.word.now c.args.key (record_data c.args.value.now) _ _ _ _ _ _ c.push_edit_front.ensures.text
    c.in_ok-put_record.ensures.ok c.push.ensures.text
