use Rattle.tsn_serve.proofs.OneCut as cutting
use Rattle.tsn_serve.proofs.laws.one_cut.Goals as goal

pub returns : goal.returns
returns c = cutting.one_cut
