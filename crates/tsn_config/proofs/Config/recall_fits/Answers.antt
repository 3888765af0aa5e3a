use Rattle.std.proofs.Common.{subst, arith}
use Rattle.tsn_edit.specs.Batches.{change_of}
use Rattle.tsn_edit.specs.Configuration.{IsWellKept}
use Rattle.tsn_config.specs.Views.{ConfigView}
use Rattle.tsn_config.proofs.Among.{after_kinds}
use Rattle.tsn_config.proofs.Batches.{batch_fits}
use Rattle.tsn_config.proofs.Config.recall_fits.Goals as goal

pub returns-clause-fits : goal.returns-clause-fits
returns-clause-fits c = grind (arith, batch_fits)

pub returns-clause-kinds : goal.returns-clause-kinds
returns-clause-kinds c =
    let now = c.args.self.now in
    let kept : IsWellKept now.limits now.map = subst (λ (s : ConfigView). IsWellKept s.limits s.map) c.self.view_is c.self.invariant in
    after_kinds now.limits now.map kept (change_of now.map c.args.batch.now)
    (batch_fits now.limits now.map kept c.args.batch.now c.recall_ranges.ensures.batch c.recall_ranges.ensures.ranges c.requires)
