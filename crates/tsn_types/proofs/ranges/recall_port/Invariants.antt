use Rattle.std.proofs.Common.{drop}
use Rattle.std.specs.List.{AllByRecursion}
use Rattle.tsn_types.specs.InRange.{PortEntryInRange}
use Rattle.tsn_types.proofs.ranges.recall_port.Given as goal

-- all are in range where what is left is
abbrev pub invariant-loop-entry : goal.invariant-loop-entry
invariant-loop-entry l = AllByRecursion PortEntryInRange (drop l.entry-index l.entry-items) → AllByRecursion PortEntryInRange l.entry-items
