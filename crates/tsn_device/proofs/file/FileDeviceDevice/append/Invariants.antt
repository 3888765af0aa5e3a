use Rattle.std.proofs.Common.{◌≡◌, ◌≤◌, ◌-◌, length, take}
use Rattle.tsn_device.specs.Noted.{taken}
use Rattle.tsn_device.proofs.file.FileDeviceDevice.append.Given as goal

-- The file took what is done.
abbrev pub invariant-writes : goal.invariant-writes
invariant-writes l = record {
  log : l.self.log ≡ taken (take l.done l.bytes) l.initial.self.log;
  works : l.self.works ≡ l.initial.self.works;
  within : l.done ≤ length l.bytes;
}

abbrev pub decreases-writes : goal.decreases-writes
decreases-writes l = length l.bytes - l.done
