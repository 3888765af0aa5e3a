use Rattle.std.proofs.Common.{Some, ap, sym, ◌∙◌}
use Rattle.std.specs.Map.Iter.{deref_pair}
use Rattle.tsn_table.specs.Firsts.{lesser}
use Rattle.tsn_table.proofs.Firsts.{lesser_by-nat_cmp}
use Rattle.tsn_table.proofs.Least.{more_passing, more_failing}
use Rattle.tsn_table.proofs.least_of.Goals as goal

pub loop-id-preserved-then-test : goal.loop-id-preserved-then-test
loop-id-preserved-then-test g c = λ p answers.
    let passes = sym (answers c.in-Some.row c.test.result c.test.ensures) ∙ c.if-test.true in
    let more = more_passing p deref_pair c.loop-id.yielded (c.in-Some.id, c.in-Some.row) passes in
    c.lesser-least.ensures ∙ lesser_by-nat_cmp c.loop-id.least (Some c.in-Some.id.now)
    ∙ ap (λ o. lesser o (Some c.in-Some.id.now)) (c.loop-id.invariant p answers) ∙ sym more

pub loop-id-preserved : goal.loop-id-preserved
loop-id-preserved g c = λ p answers.
    let fails = sym (answers c.in-Some.row c.test.result c.test.ensures) ∙ c.if-test.false in
    c.loop-id.invariant p answers ∙ sym (more_failing p deref_pair c.loop-id.yielded (c.in-Some.id, c.in-Some.row) fails)
