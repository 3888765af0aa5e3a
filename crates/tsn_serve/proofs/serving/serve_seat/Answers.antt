use Rattle.tsn_port.proofs.Working.{goes_both}
use Rattle.tsn_serve.proofs.serving.serve_seat.Goals as goal

pub connections-preserved : goal.connections-preserved
connections-preserved g c =
    goes_both c.args.desk.now c.args.seat c.connections.seat c.serve-seat.result c.connections.invariant c.serve-seat.ensures
