use Rattle.std.proofs.Common.{◌≡◌, ◌∙◌, false}
use Rattle.tsn_schedule.proofs.Keeps.{after_enable, change_enable}
use Rattle.tsn_schedule.proofs.runner.Runner.enable.Goals as goal

pub returns-clause-stands : goal.returns-clause-stands
returns-clause-stands g c =
    λ acts s.
    let off : c.args.self.now.enabled ≡ false = cc c.is_enabled.ensures.kept in
    after_enable c.args.self.now _ acts c.args.now s c.requires.last off c.start_again.ensures.kept

pub returns-clause-change : goal.returns-clause-change
returns-clause-change g c =
    λ acts s.
    let off : c.args.self.now.enabled ≡ false = cc c.is_enabled.ensures.kept in
    c.start_again.ensures.change ∙ change_enable c.args.self.now acts c.args.now s c.requires.last off
