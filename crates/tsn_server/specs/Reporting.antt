-- What is told of the last rounds of port workers.
use Rattle.std.specs.Prelude.{◌≡◌, ℕ, ◌++◌, List, [], ◌∷◌, Option, Some, None, codes, decimal}
use Rattle.tsn_desk.specs.declared.desk.Desk.{Desk}
use Rattle.tsn_machine.specs.declared.history.Entry.{Entry as Call}
use Rattle.tsn_desk.specs.Desks.{IsSeatOf, first_of, seen}
use Rattle.tsn_machine.specs.History.{Begins}
use Rattle.tsn_bridge.specs.State.{State}
use Rattle.tsn_commands.specs.declared.command.Ask.{Ask}
use Rattle.tsn_commands.specs.declared.reply.Reply.{Reply}
use Rattle.tsn_port.specs.declared.worker.PortWorker.{PortWorker}
use Rattle.tsn_port.specs.Workers.{BridgeSeat, EndsIn, IsPast, IsWorkerOf, TellsGates, last_seen, port_of}

-- A worker of a desk and the seat for its rounds, which has seen the worker's last turn.
pub record IsRested (desk : Desk State Ask Reply) (pair : BridgeSeat × PortWorker) : Type 0 where
  pub own : IsSeatOf desk pair.0
  pub worker : IsWorkerOf desk pair.1
  pub last : Begins (last_seen pair.1) (seen pair.0)

-- the line of a port: its gates in decimal, or that the instant is past
abbrev pub report_line : ℕ → Option ℕ → List ℕ
report_line port (Some gates) = codes "port " ++ decimal port ++ codes " gates " ++ decimal gates ++ codes "\n"
report_line port None = codes "port " ++ decimal port ++ codes " past\n"

-- In this state a port shows these gates at the instant; or, where none are told, the instant comes before the last act on
-- the port.
abbrev pub Tells : ℕ → ℕ → Option ℕ → State → Type 0
Tells port at (Some gates) = TellsGates port at gates
Tells port at None = IsPast port at

-- It is told in the state that ends a legal history, which begins with what was seen of it.
abbrev pub Shows : State → List (Call Ask Reply) → ℕ → ℕ → Option ℕ → Type 0
Shows first seen port at told = (history : List (Call Ask Reply)) × Begins seen history × EndsIn first history (Tells port at told)

-- the line tells of a worker's port, after what its seat has seen
abbrev pub IsToldOf : Desk State Ask Reply → ℕ → BridgeSeat × PortWorker → List ℕ → Type 0
IsToldOf desk at pair line =
    (told : Option ℕ) × Shows (first_of desk) (seen pair.0) (port_of pair.1) at told × (line ≡ report_line (port_of pair.1) told)

-- a line for each of them, in order
abbrev pub Reports : Desk State Ask Reply → ℕ → List (BridgeSeat × PortWorker) → List ℕ → Type 0
Reports desk at [] text = text ≡ []
Reports desk at (pair ∷ pairs) text =
    (line : List ℕ) × (more : List ℕ) × IsToldOf desk at pair line × Reports desk at pairs more × (text ≡ line ++ more)
