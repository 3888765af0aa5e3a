use Rattle.tsn_port.specs.Workers.{GoesOn}
use Rattle.tsn_serve.proofs.serving.serve_seat.Given as goal

abbrev pub invariant-connections : goal.invariant-connections
invariant-connections g l = GoesOn l.desk l.fn.seat l.seat
