use Rattle.tsn_undo.proofs.Commutation.{commutation}
use Rattle.tsn_undo.proofs.laws.commutation_under_references.Goals as goal

pub returns : goal.returns
returns c = commutation
