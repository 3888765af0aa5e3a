use Rattle.std.proofs.Common.{arith}
use Rattle.tsn_edit.proofs.Swapping.{swapped_next}
use Rattle.tsn_edit.proofs.taken_back.Goals as goal

pub loop-part-preserved : goal.loop-part-preserved
loop-part-preserved c =
    swapped_next c.args.parts.items c.loop-part.part-items c.loop-part.part-index c.part-item.result c.swap.new.self c.loop-part.invariant
    (omega arith) c.swap.ensures
