use Rattle.tsn_serve.proofs.Rounds.{rounded}
use Rattle.tsn_serve.proofs.probing.probe_seat.Goals as goal

pub rounds-preserved : goal.rounds-preserved
rounds-preserved g c =
    let told = c.round-back.ensures in
    rounded c.args.desk.now c.args.probe c.rounds.seat c.round-back.result.0 c.rounds.worker c.round-back.new.self c.rounds.invariant
    told.goes told.worker.0 told.worker.1 told.worker.2
