use Rattle.tsn_wire.proofs.Accepting.{accepts_values}
use Rattle.tsn_wire.proofs.laws.lines_are_values.Goals as goal

pub returns-clause-law : goal.returns-clause-law
returns-clause-law c = accepts_values
