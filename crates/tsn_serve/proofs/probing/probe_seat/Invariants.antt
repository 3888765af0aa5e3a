use Rattle.tsn_serve.specs.Probes.{IsProbed}
use Rattle.tsn_serve.proofs.probing.probe_seat.Given as goal

abbrev pub invariant-rounds : goal.invariant-rounds
invariant-rounds g l = IsProbed l.desk l.fn.probe (l.seat, l.worker)
