use Rattle.std.proofs.Common.{length, ◌≡◌}
use Rattle.tsn_port.specs.Mirrors.{first_record}
use Rattle.tsn_port.proofs.mirror.first_record.Given as goal

-- no entry so far changed the port
abbrev pub invariant-loop-entry : goal.invariant-loop-entry
invariant-loop-entry l = first_record l.port l.rest l.shown ≡ first_record l.port l.entries l.shown

abbrev pub decreases-loop-entry : goal.decreases-loop-entry
decreases-loop-entry l = length l.rest
