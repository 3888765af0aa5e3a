use Rattle.std.proofs.Common.{◌≡◌, ℕ, List, Option}
use Rattle.tsn_bridge.specs.Reached.{IsReached}
use Rattle.tsn_resuming.specs.Standing.{IsUnderWay}
use Rattle.tsn_resuming.proofs.resuming.step_all.Given as goal

-- all that was read was fed, and what the reader gave of it led the bridge to where it is
abbrev pub invariant-loop-made : goal.invariant-loop-made
invariant-loop-made g l =
    ((before : Option (List ℕ)) (setup : List ℕ)
    → IsUnderWay before (g.R.ByteIn.remaining l.initial.file) setup l.initial.reader l.initial.bridge
    → IsUnderWay before (g.R.ByteIn.remaining l.file) setup l.reader l.bridge)
    × (g.R.ByteIn.has_failed l.file ≡ g.R.ByteIn.has_failed l.initial.file)
    × (IsReached l.initial.bridge → IsReached l.bridge)
