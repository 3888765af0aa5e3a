use Rattle.std.proofs.Common.{◌≡◌, ◌≤◌, true}
use Rattle.tsn_schedule.proofs.Keeps.{after_apply}
use Rattle.tsn_schedule.proofs.runner.Runner.apply.Goals as goal

pub returns-clause-stands : goal.returns-clause-stands
returns-clause-stands g c =
    λ acts s.
    let on : c.args.self.now.enabled ≡ true = cc c.is_enabled.ensures.kept in
    let some : 1 ≤ c.args.schedule.now.cycle = rw (← c.in-Ok.ensures) c.put.ensures.some_cycle in
    after_apply c.args.self.now _ acts c.args.schedule.now c.args.now s c.requires.last on (λ e. cc (c.is_empty.ensures.1 e)) some
    (rw (← c.in-Ok.ensures) c.put.ensures.kept)
