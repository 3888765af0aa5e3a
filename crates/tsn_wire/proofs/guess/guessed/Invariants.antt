use Rattle.std.proofs.Common.{length}
use Rattle.tsn_wire.proofs.guess.guessed.Given as goal

abbrev pub decreases-names : goal.decreases-names
decreases-names l = length l.rest
