use Rattle.std.proofs.Common.{◌-◌, ◌≡◌, ◌≤◌, length, drop}
use Rattle.tsn_wire.specs.Lexed.{lexed}
use Rattle.tsn_wire.proofs.cursor.leading_space.Given as goal

abbrev pub invariant-spaces : goal.invariant-spaces
invariant-spaces l = (l.count ≤ length l.text) × (lexed (drop l.count l.text) ≡ lexed l.text)

abbrev pub decreases-spaces : goal.decreases-spaces
decreases-spaces l = length l.text - l.count
