use Rattle.tsn_desk.specs.Desks.{IsSeatOf}
use Rattle.tsn_bridge_tests.proofs.bridge.desks.edit_alone.Given as goal

abbrev pub invariant-loop : goal.invariant-loop
invariant-loop g l = IsSeatOf l.desk l.seat
