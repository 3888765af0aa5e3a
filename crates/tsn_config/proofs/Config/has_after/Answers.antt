use Rattle.std.proofs.Common.{◌+◌, sym, ◌∙◌, ap, drop, arith}
use Rattle.std.specs.Prelude.{is_some}
use Rattle.tsn_config.proofs.Suffixes.{next_left, put_at, put_beside}
use Rattle.tsn_config.proofs.Config.has_after.Goals as goal

pub returns-then-is_same : goal.returns-then-is_same
returns-then-is_same c =
    let ps = c.args.parts.now in
    let i = c.loop-part.part-index in
    let p = c.part-item.result in
    let left = next_left ps i p c.loop-part-test.true c.part-item.is in
    c.is_some.ensures
    ∙ ap is_some (c.after_of.ensures
    ∙ sym (put_at c.args.way (drop i ps) (drop (i + 1) ps) p left c.args.self.now.map c.args.key (sym c.if-is_same.ensures))
    ∙ c.loop-part.invariant)

pub loop-part-preserved : goal.loop-part-preserved
loop-part-preserved c = grind (arith, put_beside, next_left)
