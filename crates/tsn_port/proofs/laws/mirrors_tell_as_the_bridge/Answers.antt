use Rattle.tsn_port.proofs.Ports.{tells_gates}
use Rattle.tsn_port.proofs.laws.mirrors_tell_as_the_bridge.Goals as goal

pub returns-clause-gates : goal.returns-clause-gates
returns-clause-gates c book n opening t gates at shows = tells_gates book n opening t gates at shows
