use Rattle.std.proofs.Common.{subst}
use Rattle.tsn_edit.specs.Configuration.{IsWellKept}
use Rattle.tsn_config.specs.Views.{ConfigView}
use Rattle.tsn_config.proofs.Among.{after_kinds}
use Rattle.tsn_config.proofs.Config.recall_kinds.Goals as goal

pub returns : goal.returns
returns c =
    let now = c.args.self.now in
    let kept : IsWellKept now.limits now.map = subst (λ (s : ConfigView). IsWellKept s.limits s.map) c.self.view_is c.self.invariant in
    after_kinds now.limits now.map kept c.args.change.now c.requires
