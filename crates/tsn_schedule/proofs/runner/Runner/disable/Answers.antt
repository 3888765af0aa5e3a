use Rattle.std.proofs.Common.{◌≡◌, true}
use Rattle.tsn_schedule.proofs.Keeps.{after_disable}
use Rattle.tsn_schedule.proofs.runner.Runner.disable.Goals as goal

pub returns-then-is_enabled-clause-stands : goal.returns-then-is_enabled-clause-stands
returns-then-is_enabled-clause-stands g c =
    λ acts s.
    let on : c.args.self.now.enabled ≡ true = cc c.is_enabled.ensures.kept in
    after_disable c.args.self.now _ acts c.args.now s c.requires.last on c.stop.ensures
