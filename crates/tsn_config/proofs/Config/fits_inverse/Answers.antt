use Rattle.std.proofs.Common.{ap, subst}
use Rattle.std.specs.Bool.{Decides}
use Rattle.tsn_edit.specs.Changes.{Fits}
use Rattle.tsn_edit.specs.Parts.{Change, inverse}
use Rattle.tsn_config.proofs.Config.fits_inverse.Goals as goal

pub returns-in_default : goal.returns-in_default
returns-in_default c =
    let now = c.args.self.now in
    subst (λ (e : Change). Decides c.fit_together.result (Fits now.limits now.map e)) (ap inverse c.parts.ensures.parts)
    c.fit_together.ensures
