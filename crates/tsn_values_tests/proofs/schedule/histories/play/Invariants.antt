use Rattle.std.proofs.Common.{◌≤◌}
use Rattle.tsn_values_tests.proofs.schedule.histories.play.Given as goal

abbrev pub invariant-acts : goal.invariant-acts
invariant-acts g l = record { in_order : l.runner.last ≤ l.now; small : l.now ≤ 1000 }
