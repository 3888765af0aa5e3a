use Rattle.tsn_setup.proofs.Accepting.{accepts_values}
use Rattle.tsn_setup.proofs.laws.documents_are_values.Goals as goal

pub returns-clause-law : goal.returns-clause-law
returns-clause-law c = accepts_values
