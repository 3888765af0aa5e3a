use Rattle.std.proofs.Common.{◌∙◌, ap, is_some}
use Rattle.tsn_edit.specs.Batches.{refusal}
use Rattle.tsn_remarks.proofs.Referred.{removal}
use Rattle.tsn_remarks.proofs.telling.is_referred.Goals as goal

pub returns : goal.returns
returns c =
    let l = c.args.config.now.limits in
    let m = c.args.config.now.map in
    c.is_some.ensures ∙ ap is_some (c.check-2.ensures ∙ ap (refusal l m) c.one.ensures)
    ∙ removal l m c.args.key.now c.requires.kept c.requires.there c.requires.removable
