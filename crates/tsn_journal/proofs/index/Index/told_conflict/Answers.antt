use Rattle.std.proofs.Common.{arith, true, length, get_or, sym, ◌∙◌, ap}
use Rattle.tsn_journal.specs.Index.{above}
use Rattle.tsn_journal.proofs.Blocked.{next_told, on_part}
use Rattle.tsn_journal.proofs.Sought.{sought_none}
use Rattle.tsn_journal.proofs.index.Index.told_conflict.Goals as goal

pub loop-part-init : goal.loop-part-init
loop-part-init c = λ ms e can is. ap (above e.number) (sym (sought_none (λ m. true) ms))

pub loop-part-preserved : goal.loop-part-preserved
loop-part-preserved c = λ ms e can is.
    let same = c.parts-part-items.ensures.parts in
    let i = c.loop-part.part-index in
    let p = c.part-item.result in
    let at = c.part-item.is ∙ ap (λ xs. get_or xs i p) same in
    next_told ms c.args.self.now e can c.args.change.now i p c.loop-part.latest c.told_part-with_part.result c.later_of-latest.result
    (omega (arith, ap length same)) at
    (c.loop-part.invariant ms e can is)
    (c.told_part-with_part.ensures ms e can (on_part c.args.change.now i p e is (omega (arith, ap length same)) at))
    c.later_of-latest.ensures
