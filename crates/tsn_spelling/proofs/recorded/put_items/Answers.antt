use Rattle.tsn_spelling.proofs.Growing.{none_more, pushed}
use Rattle.tsn_spelling.proofs.Records.{begun, one_more, all_items}
use Rattle.tsn_spelling.proofs.recorded.put_items.Goals as goal

pub others-init : goal.others-init
others-init g c = begun g.I.ShownItem.shown c.in-Some.others.now _ _

pub others-preserved : goal.others-preserved
others-preserved g c =
    one_more g.I.ShownItem.shown c.item-item.result c.item-item.result c.in-Some.others.now c.others.item-index _ _ _ _ _ _ _ _ _
    c.others-test.true c.item-item.is c.others.invariant c.in_ok-make_room-2.ensures.ok c.in_ok-make_room-2.ensures.front
    c.push-in-others.ensures.text
    (pushed _ _ _ _ c.push-in-others-2.ensures.text) (none_more _)

pub returns-clause-ok : goal.returns-clause-ok
returns-clause-ok g c =
    all_items g.I.ShownItem.shown c.in-Some.first.now c.args.items.now c.in-Some.others.now c.others.item-index _ _ _ _ _ _ _ _ _ _ _
    c.in-Some.ensures.cases.0 c.others-test.false c.in_ok-make_room.ensures.ok (pushed _ _ _ _ c.push-2.ensures.text) c.others.invariant
    c.in_ok-make_room-3.ensures.ok c.push-3.ensures.text
