use Rattle.std.proofs.Common.{subst}
use Rattle.std.proofs.lemmas.Bool.Decides.{Decides-at}
use Rattle.tsn_edit.specs.Configuration.{IsWellKept}
use Rattle.tsn_config.specs.Views.{ConfigView}
use Rattle.tsn_config.proofs.Deciding.{fits_decides}
use Rattle.tsn_config.proofs.Config.fits_between.Goals as goal

pub returns-then-stands : goal.returns-then-stands
returns-then-stands c =
    let now = c.args.self.now in
    let kept : IsWellKept now.limits now.map = subst (λ (s : ConfigView). IsWellKept s.limits s.map) c.self.view_is c.self.invariant in
    Decides-at c.keeps.result _ c.keeps.ensures
    (fits_decides now.limits now.map kept (record { key = c.args.key.now; before = c.args.before.now; after = c.args.after.now })
    c.recall_ranges.ensures (c.stands.ensures.0 c.if-stands.true))
