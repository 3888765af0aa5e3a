use Rattle.std.proofs.Common.{◌≤◌, ◌-◌, length}
use Rattle.tsn_device.proofs.writing.write_all.Given as goal

abbrev pub invariant-writes : goal.invariant-writes
invariant-writes l = record { within : l.done ≤ length l.bytes }

abbrev pub decreases-writes : goal.decreases-writes
decreases-writes l = length l.bytes - l.done
