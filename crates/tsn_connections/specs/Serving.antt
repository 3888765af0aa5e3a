-- What a run that serves connections tells in the end.
use Rattle.std.specs.Prelude.{◌≡◌, ℕ, List, [], true, Option, Result, Ok, Err}
use Rattle.std.specs.Io.KnownBytes.{Appends}
use Rattle.tsn_bytes.specs.declared.bytes.Fault.TheVariants.{Read, Write, Memory, Exhausted}
use Rattle.tsn_bridge.specs.State.{State}
use Rattle.tsn_server.specs.Serving.{ReportsEnd}
use Rattle.tsn_failures.specs.Output.{Output, Reports}
use Rattle.tsn_failures.specs.declared.failures.Failure.{Failure}
use Rattle.tsn_failures.specs.declared.failures.Failure.TheVariants as failures

-- Where an instant is given, the last round of each port was told, in the order of the ports, and handed on, and else nothing; or
-- the writer failed; or memory was wanting, or no ticket was left. Where the bridge refused a worker's start, nothing was written.
abbrev pub EndsServing : State → Option ℕ → Output → Result (Unit {0}) Failure → Type 0
EndsServing first at output (Ok u) =
    ((text : List ℕ) × ReportsEnd first at text × Appends output.old output.new text)
    × (output.held_back ≡ [])
EndsServing first at output (Err (failures.Fault Read)) = ⊥
EndsServing first at output (Err (failures.Fault Write)) = output.failed ≡ true
EndsServing first at output (Err (failures.Fault Memory)) = Unit {0}
EndsServing first at output (Err (failures.Fault Exhausted)) = Unit {0}
EndsServing first at output (Err failures.Setup) = ⊥
EndsServing first at output (Err (failures.Refused why)) = output.new ≡ output.old

-- Connections were served on a bridge, and how that ended is told.
abbrev pub ServesConnections : State → Option ℕ → Output → ℕ → Output → Type 0
ServesConnections first at output status errors =
    (outcome : Result (Unit {0}) Failure)
    × EndsServing first at output outcome
    × Reports outcome status errors
