use Rattle.std.proofs.Common.{arith, ◌-◌, drop, length, take}
use Rattle.tsn_encoding.proofs.Telling.{first_of, no_others, other_more, several_pieces}
use Rattle.tsn_encoding.proofs.told.push_several.Goals as goal

pub others-init : goal.others-init
others-init c = (no_others c.push_key_text.new.text, omega arith)

pub others-preserved : goal.others-preserved
others-preserved c =
    let others = take (length c.args.parts.now - 1) (drop 1 c.args.parts.now) in (
      other_more c.push_key_text.new.text c.others.text c.push_key_text-in-others.new.text others c.part-item.result c.part-item.result
          c.others.part-index c.others-test.true c.part-item.is c.others.invariant.0 c.push_key_text-in-others.ensures.text,
      omega (arith, c.others.invariant.1, c.push_key_text-in-others.ensures.len),
    )

pub returns-clause-text : goal.returns-clause-text
returns-clause-text c =
    let others = take (length c.args.parts.now - 1) (drop 1 c.args.parts.now) in
    several_pieces c.args.parts.now others c.first-item.result c.args.text.now c.push_key_text.new.text c.others.text c.push.new.self
    c.others.part-index
    (first_of c.args.parts.now c.first-item.result c.in-len1-up.len_at_least c.first-item.is) c.requires.several c.others-test.false
    c.push_key_text.ensures.text c.others.invariant.0 c.push.ensures.text
