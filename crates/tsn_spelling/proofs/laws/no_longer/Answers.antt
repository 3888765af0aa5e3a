use Rattle.tsn_spelling.proofs.Holding.{is_no_longer}
use Rattle.tsn_spelling.proofs.laws.no_longer.Goals as goal

pub returns : goal.returns
returns c = is_no_longer
