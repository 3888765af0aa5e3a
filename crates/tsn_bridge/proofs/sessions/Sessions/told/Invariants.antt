use Rattle.std.proofs.Common.{◌≡◌}
use Rattle.tsn_bridge.specs.Sessions.{given_to}
use Rattle.tsn_bridge.proofs.Naming.{AreLeft}
use Rattle.tsn_bridge.proofs.sessions.Sessions.told.Given as goal

-- the sessions up to the one before this are told, and the names of those behind are left
abbrev pub invariant-loop-before : goal.invariant-loop-before
invariant-loop-before l =
    (l.sessions.items ≡ given_to l.self.names l.journal.entries l.before) × AreLeft l.self.names l.rest l.before l.self.count
