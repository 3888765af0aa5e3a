use Rattle.std.proofs.Common.{◌-◌, ◌≤◌, length}
use Rattle.tsn_sockets.proofs.tally.Tally.read.Given as goal

abbrev pub invariant-replies : goal.invariant-replies
invariant-replies l = l.done ≤ length l.text

abbrev pub decreases-replies : goal.decreases-replies
decreases-replies l = length l.text - l.done
