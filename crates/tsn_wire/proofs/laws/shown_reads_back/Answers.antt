use Rattle.tsn_wire.proofs.Accepting.{reads_back}
use Rattle.tsn_wire.proofs.laws.shown_reads_back.Goals as goal

pub returns : goal.returns
returns c = reads_back
