use Rattle.tsn_edit.proofs.Inverses.{taken_back}
use Rattle.tsn_config.proofs.laws.change_and_inverse.Goals as goal

pub returns-clause-good : goal.returns-clause-good
returns-clause-good c l m e kept fits = (fits, ((taken_back l m e kept fits).fits, tt))

pub returns-clause-same : goal.returns-clause-same
returns-clause-same c l m e kept fits = (taken_back l m e kept fits).same
