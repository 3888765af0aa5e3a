use Rattle.std.proofs.Common.{arith, ◌+◌, drop, length, get_or, sym, ◌∙◌, ap}
use Rattle.std.specs.Prelude.{◌&&◌, is_some}
use Rattle.tsn_journal.specs.Index.{is_sought}
use Rattle.tsn_entries.specs.Marks.{stands}
use Rattle.tsn_journal.proofs.Sought.{numbered_after, sought_next, sought_none}
use Rattle.tsn_journal.proofs.finding.latest_conflict.Goals as goal

pub loop-part-init : goal.loop-part-init
loop-part-init c = sym (sought_none (λ m. is_some (stands m) && is_sought c.args.but m) (drop c.args.after c.args.marked.now))

pub loop-part-preserved : goal.loop-part-preserved
loop-part-preserved c =
    let same = c.parts-part-items.ensures.parts in
    let i = c.loop-part.part-index in
    let p = c.part-item.result in
    sought_next (λ m. is_some (stands m) && is_sought c.args.but m) (1 + c.args.after) (drop c.args.after c.args.marked.now)
    c.args.change.now i p c.loop-part.latest c.conflict_with_part-with_part.result c.later_of-latest.result
    (numbered_after 1 c.args.after c.args.marked.now c.requires.numbered)
    (omega (arith, ap length same)) (c.part-item.is ∙ ap (λ xs. get_or xs i p) same) c.loop-part.invariant
    c.conflict_with_part-with_part.ensures c.later_of-latest.ensures
