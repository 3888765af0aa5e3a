use Rattle.tsn_resuming.proofs.Joining.{not_refused}
use Rattle.tsn_resuming.proofs.laws.written_is_resumed.Goals as goal

pub returns : goal.returns
returns c = not_refused
