use Rattle.std.proofs.Common.{ℕ, List, Option, length}
use Rattle.tsn_bridge.specs.Reached.{IsReached}
use Rattle.tsn_resuming.specs.Standing.{IsUnderWay}
use Rattle.tsn_resuming.proofs.resuming.step_lines.Given as goal

abbrev pub decreases-lines : goal.decreases-lines
decreases-lines g l = length l.reader.held

-- what the reader gave led the bridge to where it is
abbrev pub invariant-lines : goal.invariant-lines
invariant-lines g l =
    ((before now : Option (List ℕ)) (setup : List ℕ) → IsUnderWay before now setup l.initial.reader l.initial.bridge
    → IsUnderWay before now setup l.reader l.bridge)
    × (IsReached l.initial.bridge → IsReached l.bridge)
