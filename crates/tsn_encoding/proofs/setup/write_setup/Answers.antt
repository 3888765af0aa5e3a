use Rattle.std.proofs.Common.{refl, arith, ap, codes, length, ◌++◌, ◌∙◌}
use Rattle.std.proofs.lemmas.Result.{on_err_weaker, on_ok_weaker}
use Rattle.serde_json.specs.Written.{compact_text}
use Rattle.tsn_encoding.specs.Pieces.{TakesFront}
use Rattle.tsn_encoding.specs.Shown.{setup_data}
use Rattle.tsn_encoding.proofs.Pieces.{at_err, cut_end, goes_out}
use Rattle.tsn_encoding.proofs.Setups.{byte_more, setup_begun, setup_cut, setup_ended}
use Rattle.tsn_encoding.proofs.setup.write_setup.Given.{Over}
use Rattle.tsn_encoding.proofs.setup.write_setup.Goals.{After-put_all}
use Rattle.tsn_encoding.proofs.setup.write_setup.Goals as goal

pub bytes-init : goal.bytes-init
bytes-init g c = (omega (arith, c.push.ensures.len, ap length c.requires), setup_begun _ c.push.new.self, refl)

pub bytes-preserved : goal.bytes-preserved
bytes-preserved g c = (
  omega (arith, c.in_ok-make_room.ensures.room, c.push_escaped.ensures.len),
  byte_more _ _ _ c.push.new.self c.bytes.text c.make_room.new.text c.push_escaped.new.text c.args.setup.now _ 0 c.bytes.byte-index
      c.bytes-test.true refl c.bytes.invariant.1 c.in_ok-make_room.ensures.ok c.push_escaped.ensures.text,
  c.in_ok-make_room.ensures.worked ∙ c.bytes.invariant.2,
)

pub returns-in_err-make_room-clause-cut : goal.returns-in_err-make_room-clause-cut
returns-in_err-make_room-clause-cut g c =
    let front = c.push.ensures.text ∙ ap (λ l. l ++ codes "{\"setup\":\"") c.requires in
    at_err c.from_residual.result (setup_cut _ _ _ c.args.setup.now c.push.new.self c.bytes.text c.bytes.byte-index front
    c.bytes.invariant.1 c.in_err-make_room.ensures.cut)

-- what is written last is the rest of the line
end : (g : Over) (c : After-put_all g)
    → TakesFront (g.W.ByteOut.taken c.args.writer.now) (g.W.ByteOut.taken c.bytes.writer)
    (compact_text (setup_data c.args.setup.now) ++ codes "\n") c.as_slice.result.now
end g c =
    setup_ended _ _ c.args.setup.now c.push.new.self c.bytes.text c.as_slice.result.now c.bytes.byte-index
    (c.push.ensures.text ∙ ap (λ l. l ++ codes "{\"setup\":\"") c.requires)
    c.bytes-test.false c.bytes.invariant.1 (c.as_slice.ensures ∙ c.push-2.ensures.text)

pub returns-clause-ok : goal.returns-clause-ok
returns-clause-ok g c =
    on_ok_weaker c.put_all.result (goes_out _ _ _ _ _ (end g (goal.at.returns-clause-ok g c).After-put_all)) c.put_all.ensures.ok

pub returns-clause-cut : goal.returns-clause-cut
returns-clause-cut g c =
    on_err_weaker c.put_all.result (cut_end _ _ _ _ _ (end g (goal.at.returns-clause-cut g c).After-put_all)) c.put_all.ensures.cut
