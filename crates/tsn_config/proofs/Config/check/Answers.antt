use Rattle.std.proofs.Common.{sym, ◌∙◌, ap, map, arith}
use Rattle.std.proofs.Math.ListN.{drop_of_length-le}
use Rattle.tsn_types.specs.Refusals.{least, lesser}
use Rattle.tsn_types.proofs.Ordered.{lesser-none}
use Rattle.tsn_edit.proofs.Ordered.{batch_refusal-first, own_cause}
use Rattle.tsn_config.proofs.Batches.{one_more}
use Rattle.tsn_config.proofs.Suffixes.{next_left}
use Rattle.tsn_config.proofs.Config.check.Goals as goal

pub loop-edit-preserved : goal.loop-edit-preserved
loop-edit-preserved c = grind (arith, own_cause, one_more, next_left)

pub returns : goal.returns
returns c =
    let now = c.args.self.now in
    let es = c.edits-edits.result.now in
    sym (ap (λ xs. lesser c.loop-edit.least (least (map (λ e. own_cause now.limits now.map es e) xs)))
    (drop_of_length-le es c.loop-edit-test.false)
    ∙ lesser-none c.loop-edit.least)
    ∙ c.loop-edit.invariant
    ∙ ap (λ b. least (map (λ e. own_cause now.limits now.map b e) b)) c.edits-edits.ensures.edits
    ∙ sym (batch_refusal-first now.limits now.map c.args.batch.now)
