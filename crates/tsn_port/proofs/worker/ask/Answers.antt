use Rattle.tsn_port.proofs.Working.{stays_goes}
use Rattle.tsn_port.proofs.worker.ask.Goals as goal

pub returns-clause-goes : goal.returns-clause-goes
returns-clause-goes g c =
    let none = rw c.in-Err.is at c.attended_turn-seat.ensures.exhausted in
    let own = c.attended_turn-seat.ensures.own in
    stays_goes c.args.desk.now c.args.seat c.attended_turn-seat.result.0 own.0 own.1 none.1 none.2
