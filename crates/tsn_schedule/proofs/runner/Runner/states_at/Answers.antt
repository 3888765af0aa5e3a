use Rattle.std.proofs.Common.{◌≤◌, ◌<◌, ◌∙◌, ap, arith, sym, ◌∷◌}
use Rattle.std.specs.Option.{option_map}
use Rattle.tsn_schedule.specs.Acts.{Apply}
use Rattle.tsn_schedule.specs.Times.{change_of}
use Rattle.tsn_schedule.proofs.Numbers.{reached}
use Rattle.tsn_schedule.proofs.Restored.{restored}
use Rattle.tsn_schedule.proofs.runner.Runner.states_at.Goals as goal

pub returns-in_err-current_at-clause-restored : goal.returns-in_err-current_at-clause-restored
returns-in_err-current_at-clause-restored g c schedule a acts s past h =
    let after : a ≤ change_of schedule.base schedule.cycle a = reached schedule.base schedule.cycle a s.history.1.2 in
    let early : c.args.t < a = c.in_err-current_at.ensures (Apply schedule a ∷ acts) s in
    absurd (omega arith)

pub returns-in-None-clause-restored : goal.returns-in-None-clause-restored
returns-in-None-clause-restored g c schedule a acts s past h =
    ap (option_map (λ current. current.entry.now)) (sym c.in-None.is)
    ∙ (c.in_ok-current_at.ensures (Apply schedule a ∷ acts) s).1
    ∙ restored g.E.Timed.interval schedule acts a c.args.t s.history.1.2 past h

pub returns-in-Some-clause-restored : goal.returns-in-Some-clause-restored
returns-in-Some-clause-restored g c schedule a acts s past h =
    ap (option_map (λ current. current.entry.now)) (sym c.in-Some.is)
    ∙ (c.in_ok-current_at.ensures (Apply schedule a ∷ acts) s).1
    ∙ restored g.E.Timed.interval schedule acts a c.args.t s.history.1.2 past h
