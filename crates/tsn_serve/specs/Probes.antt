-- What a port worker leaves after its rounds.
use Rattle.std.specs.Prelude.{◌≡◌, ◌++◌, ℕ, List, Option, codes, decimal}
use Rattle.tsn_desk.specs.declared.desk.Desk.{Desk}
use Rattle.tsn_desk.specs.Desks.{seen}
use Rattle.tsn_machine.specs.History.{Begins}
use Rattle.tsn_bridge.specs.State.{State}
use Rattle.tsn_commands.specs.declared.command.Ask.{Ask}
use Rattle.tsn_commands.specs.declared.reply.Reply.{Reply}
use Rattle.tsn_types.specs.Names.{named}
use Rattle.tsn_port.specs.declared.worker.PortWorker.{PortWorker}
use Rattle.tsn_port.specs.declared.worker.RoundFault.{RoundFault}
use Rattle.tsn_port.specs.declared.worker.RoundFault.TheVariants.{Past, Memory, Exhausted, Refused}
use Rattle.tsn_port.specs.Workers.{BridgeSeat, GoesOn, IsStart, IsWorkerOf, last_seen, port_of}
use Rattle.tsn_serve.specs.declared.probing.Probe.{Probe}
use Rattle.tsn_serve.specs.declared.probing.ServeFault.{ServeFault}
use Rattle.tsn_serve.specs.declared.probing.ServeFault.TheVariants.{Memory as NoMemory, Exhausted as NoTicket, Refused as NotStarted}

-- The worker is one of this desk, at the probe's port. Its seat goes on as the probe's, and has seen the history that ends
-- with the worker's last turn.
pub record IsProbed (desk : Desk State Ask Reply) (probe : Probe) (probed : BridgeSeat × PortWorker) : Type 0 where
  pub goes : GoesOn desk probe.seat probed.0
  pub worker : IsWorkerOf desk probed.1
  pub last : Begins (last_seen probed.1) (seen probed.0)
  pub port : port_of probed.1 ≡ probe.port

-- the name by which a port's worker says hello, `port N`
abbrev pub worker_name : ℕ → Option (List ℕ)
worker_name port = named (codes "port " ++ decimal port)

-- A worker of a port has started at this desk, by a hello of its name, and its seat goes on and has seen just what its last turn
-- ended with.
pub record HasStarted (desk : Desk State Ask Reply) (old : BridgeSeat) (port : ℕ) (new : BridgeSeat) (worker : PortWorker) : Type 0 where
  pub goes : GoesOn desk old new
  pub is_worker : IsWorkerOf desk worker
  pub port_is : port_of worker ≡ port
  pub last : last_seen worker ≡ seen new
  pub start : IsStart (worker_name port) old new worker

-- what ends serving where a worker could not start: want of memory, of a ticket, or the bridge's refusal. A start is never past.
abbrev pub serve_fault : RoundFault → ServeFault
serve_fault Past = NoMemory
serve_fault Memory = NoMemory
serve_fault Exhausted = NoTicket
serve_fault (Refused why) = NotStarted why
