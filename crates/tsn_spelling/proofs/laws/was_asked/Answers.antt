use Rattle.tsn_spelling.proofs.Holding.{was_asked, is_asked_again}
use Rattle.tsn_spelling.proofs.laws.was_asked.Goals as goal

pub returns-clause-may : goal.returns-clause-may
returns-clause-may c = was_asked

pub returns-clause-again : goal.returns-clause-again
returns-clause-again c = is_asked_again
