use Rattle.std.proofs.Common.{ap, arith, length}
use Rattle.tsn_undo.specs.declared.book.TakingBack.{TakingBack}
use Rattle.tsn_undo.proofs.Room.{room_left-more}
use Rattle.tsn_undo.proofs.undo_all.parts_of.Goals as goal

pub loop-back-preserved : goal.loop-back-preserved
loop-back-preserved c =
    let more = room_left-more c.args.backs.now c.loop-back.back-index c.back-item.result c.loop-back-test.true c.back-item.is in
    let same = ap (λ (y : TakingBack). length y.applied) c.back-item.is in
    record {
      parts = omega (arith, c.loop-back.invariant.parts, more, ap length c.parts.ensures.parts, same);
      few = omega (arith, c.loop-back.invariant.few, c.parts.ensures.few.1, ap length c.parts.ensures.parts, same);
    }
