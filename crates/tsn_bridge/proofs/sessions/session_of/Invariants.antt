use Rattle.std.proofs.Common.{◌≡◌, length}
use Rattle.tsn_bridge.specs.Names.{session_of}
use Rattle.tsn_bridge.proofs.sessions.session_of.Given as goal

-- no session ahead of what is left goes by the name
abbrev pub invariant-loop-rest : goal.invariant-loop-rest
invariant-loop-rest l = session_of l.names l.name ≡ session_of l.rest l.name

abbrev pub decreases-loop-rest : goal.decreases-loop-rest
decreases-loop-rest l = length l.rest
