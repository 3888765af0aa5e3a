use Rattle.tsn_port.proofs.Working.{front_goes, goes_both}
use Rattle.tsn_port.proofs.worker.PortWorker.catch_up.Goals as goal

pub returns-clause-goes : goal.returns-clause-goes
returns-clause-goes g c =
    goes_both c.args.desk.now c.args.seat c.front-seat.result.0 c.follow.result.0
    (front_goes c.args.desk.now c.args.seat c.front-seat.result.0 c.front-seat.ensures.own c.front-seat.ensures.seen.0
    c.front-seat.ensures.own_calls) c.follow.ensures.goes
