use Rattle.std.proofs.Common.{refl, arith, ◌∙◌, ◌++◌, false, map}
use Rattle.serde_json.specs.View.{items_of}
use Rattle.serde_json.specs.Written.{items_text}
use Rattle.tsn_encoding.specs.Pieces.{TakesFront}
use Rattle.std.proofs.lemmas.Result.{on_ok_weaker, on_err_weaker}
use Rattle.tsn_encoding.proofs.Pieces.{begun, one_more, cut_inside, ended, cut_end, goes_out, at_err}
use Rattle.tsn_encoding.proofs.shown.write_listed.Given.{Over}
use Rattle.tsn_encoding.proofs.shown.write_listed.Goals.{After-put_all-2}
use Rattle.tsn_encoding.proofs.shown.write_listed.Goals as goal

pub others-init : goal.others-init
others-init g c = (omega (arith, c.push-2.ensures.len, c.requires.front), begun _ g.I.ShownItem.shown c.push-2.new.text, refl)

pub others-preserved : goal.others-preserved
others-preserved g c = (
  omega (arith, c.in_ok-make_room.ensures.room, c.push_next.ensures.len),
  one_more _ _ _ g.I.ShownItem.shown c.push-2.new.text c.others.text c.make_room.new.text c.push_next.new.text c.in-Some.others.now
      c.item-item.result c.item-item.result c.others.item-index
      c.others-test.true c.item-item.is c.others.invariant.1 c.in_ok-make_room.ensures.ok c.push_next.ensures.text,
  c.in_ok-make_room.ensures.worked ∙ c.others.invariant.2,
)

pub returns-in_err-make_room-clause-cut : goal.returns-in_err-make_room-clause-cut
returns-in_err-make_room-clause-cut g c =
    at_err c.from_residual.result (cut_inside _ _ _ g.I.ShownItem.shown c.args.text.now c.args.rest.now c.push-2.new.text c.others.text
    c.args.items.now c.in-Some.others.now c.in-Some.first.now c.others.item-index
    c.in-Some.ensures.cases.0 c.push-2.ensures.text c.others.invariant.1 c.in_err-make_room.ensures.cut)

-- what is written last is the rest of the line
end : (g : Over) (c : After-put_all-2 g)
    → TakesFront (g.W.ByteOut.taken c.args.writer.now) (g.W.ByteOut.taken c.others.writer)
    (c.args.text.now ++ (items_text false (items_of (map g.I.ShownItem.shown c.args.items.now)) ++ c.args.rest.now)) c.as_slice-2.result.now
end g c =
    ended _ _ g.I.ShownItem.shown c.args.text.now c.args.rest.now c.push-2.new.text c.others.text c.push-3.new.self
    c.push_bytes-2.new.self c.as_slice-2.result.now c.args.items.now c.in-Some.others.now c.in-Some.first.now c.others.item-index
    c.in-Some.ensures.cases.0 c.push-2.ensures.text c.others-test.false c.others.invariant.1 c.push-3.ensures.text
    c.push_bytes-2.ensures.text c.as_slice-2.ensures

pub returns-clause-ok : goal.returns-clause-ok
returns-clause-ok g c =
    on_ok_weaker c.put_all-2.result (goes_out _ _ _ _ _ (end g (goal.at.returns-clause-ok g c).After-put_all-2)) c.put_all-2.ensures.ok

pub returns-clause-cut : goal.returns-clause-cut
returns-clause-cut g c =
    on_err_weaker c.put_all-2.result (cut_end _ _ _ _ _ (end g (goal.at.returns-clause-cut g c).After-put_all-2)) c.put_all-2.ensures.cut
