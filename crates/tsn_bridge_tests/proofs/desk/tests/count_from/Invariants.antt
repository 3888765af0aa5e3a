use Rattle.tsn_desk.specs.Desks.{IsSeatOf}
use Rattle.tsn_bridge_tests.proofs.desk.tests.count_from.Given as goal

abbrev pub invariant-loop : goal.invariant-loop
invariant-loop g l = IsSeatOf l.desk l.seat
