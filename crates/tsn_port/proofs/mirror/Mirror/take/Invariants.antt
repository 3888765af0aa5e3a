use Rattle.std.proofs.Common.{◌≡◌, ◌+◌, ◌++◌, List, take}
use Rattle.tsn_types.specs.declared.records.PortGates.{PortGates}
use Rattle.tsn_entries.specs.declared.entries.Entry.{Entry}
use Rattle.tsn_port.specs.Mirrors.{AreOfPort, Mirrors, mirrored}
use Rattle.tsn_port.proofs.mirror.Mirror.take.Given as goal

-- the entries so far are in
abbrev pub invariant-each : goal.invariant-each
invariant-each l =
    (l.self.port ≡ l.initial.self.port)
    × (l.self.front ≡ l.initial.self.front + l.entry-index)
    × ((opening : PortGates) (before : List Entry) → Mirrors l.initial.self opening before
    → AreOfPort l.initial.self.port (mirrored l.initial.self.port opening before) l.all
    → Mirrors l.self opening (before ++ take l.entry-index l.all))
