use Rattle.tsn_spelling.proofs.Holding.{reads_back}
use Rattle.tsn_spelling.proofs.laws.reads_back.Goals as goal

pub returns : goal.returns
returns c = reads_back
