use Rattle.tsn_wire.specs.Values.{edit_value}
use Rattle.tsn_spelling.proofs.Records.{begun, one_more, all_items}
use Rattle.tsn_spelling.proofs.edits.put_edits.Goals as goal

pub others-init : goal.others-init
others-init c = begun edit_value c.in-Some.others.now _ _

pub others-preserved : goal.others-preserved
others-preserved c =
    one_more edit_value c.edit-item.result c.edit-item.result c.in-Some.others.now c.others.edit-index _ _ _ _ _ _ _ _ _
    c.others-test.true c.edit-item.is c.others.invariant c.in_ok-make_room-2.ensures.ok c.in_ok-make_room-2.ensures.front
    c.push-in-others.ensures.text
    c.in_ok-put_batched-2.ensures.ok c.in_ok-put_batched-2.ensures.front

pub returns-clause-ok : goal.returns-clause-ok
returns-clause-ok c =
    all_items edit_value c.in-Some.first.now c.args.edits.now c.in-Some.others.now c.others.edit-index _ _ _ _ _ _ _ _ _ _ _
    c.in-Some.ensures.cases.0 c.others-test.false c.in_ok-make_room.ensures.ok c.in_ok-put_batched.ensures.ok c.others.invariant
    c.in_ok-make_room-3.ensures.ok c.push-2.ensures.text
