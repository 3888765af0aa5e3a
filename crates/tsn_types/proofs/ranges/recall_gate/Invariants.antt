use Rattle.std.proofs.Common.{drop}
use Rattle.std.specs.List.{AllByRecursion}
use Rattle.tsn_types.specs.InRange.{GateEntryInRange}
use Rattle.tsn_types.proofs.ranges.recall_gate.Given as goal

-- all are in range where what is left is
abbrev pub invariant-loop-entry : goal.invariant-loop-entry
invariant-loop-entry l = AllByRecursion GateEntryInRange (drop l.entry-index l.entry-items) → AllByRecursion GateEntryInRange l.entry-items
