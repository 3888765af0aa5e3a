use Rattle.std.proofs.Common.{◌≡◌}
use Rattle.tsn_bytes.specs.Standard.{IsTried}
use Rattle.tsn_bytes.proofs.standard.StdIoByteOut.flush.Given as goal

abbrev pub invariant-flushes : goal.invariant-flushes
invariant-flushes g l =
    (l.self-inside.has_failed ≡ l.initial.self-inside.has_failed) × IsTried g.T.Write.contents l.initial.self-inside.last l.self-inside.last

abbrev pub decreases-flushes : goal.decreases-flushes
decreases-flushes g l = l.self-inside.last.tries_left
