use Rattle.std.proofs.Common.{◌-◌}
use Rattle.tsn_wire.specs.Lexed.{lexed}
use Rattle.tsn_wire.proofs.Gathering.{Gathers}
use Rattle.tsn_wire.proofs.members.members.Given as goal

abbrev pub invariant-members : goal.invariant-members
invariant-members g l = Gathers g.M.Gathered.nesting (lexed l.initial.text) (g.M.Gathered.rows l.found) l.count (lexed l.text)

abbrev pub decreases-members : goal.decreases-members
decreases-members g l = 12 - l.count
