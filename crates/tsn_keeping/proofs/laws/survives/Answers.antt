use Rattle.tsn_keeping.proofs.Entering.{at_least, no_more}
use Rattle.tsn_keeping.proofs.laws.survives.Goals as goal

pub returns-clause-settled : goal.returns-clause-settled
returns-clause-settled c = at_least

pub returns-clause-front : goal.returns-clause-front
returns-clause-front c = no_more
