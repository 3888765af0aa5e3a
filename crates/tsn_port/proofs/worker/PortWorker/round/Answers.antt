use Rattle.std.proofs.Common.{IfOk, subst, sym}
use Rattle.tsn_desk.specs.Desks.{first_of, seen}
use Rattle.tsn_port.specs.Workers.{EndsIn, IsPast, IsRound, TellsGates}
use Rattle.tsn_port.proofs.worker.PortWorker.round.Goals as goal

pub returns-in-Ok-clause-gates : goal.returns-in-Ok-clause-gates
returns-in-Ok-clause-gates g c =
    subst (λ s. IfOk c.answer.result.1
    (λ gates. EndsIn (first_of c.args.desk.now) (seen s) (TellsGates c.args.self.now.mirror.port c.args.t gates)))
    (sym c.answer.ensures.same)
    (subst (λ k. IfOk c.answer.result.1
    (λ gates. EndsIn (first_of c.args.desk.now) (seen c.catch_up-seat.result.0) (TellsGates k c.args.t gates)))
    c.catch_up-seat.ensures.worker.2 c.answer.ensures.gates)

pub returns-in-Ok-clause-past : goal.returns-in-Ok-clause-past
returns-in-Ok-clause-past g c past =
    subst (λ s. EndsIn (first_of c.args.desk.now) (seen s) (IsPast c.args.self.now.mirror.port c.args.t)) (sym c.answer.ensures.same)
    (subst (λ k. EndsIn (first_of c.args.desk.now) (seen c.catch_up-seat.result.0) (IsPast k c.args.t)) c.catch_up-seat.ensures.worker.2
    (c.answer.ensures.past past))

pub returns-in-Ok-clause-turns : goal.returns-in-Ok-clause-turns
returns-in-Ok-clause-turns g c =
    subst (λ s. IsRound c.args.self.now c.args.seat s) (sym c.answer.ensures.same) c.catch_up-seat.ensures.turns
