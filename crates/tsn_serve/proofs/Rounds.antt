-- What a port worker leaves, after its start and after each round.
use Rattle.std.proofs.Common.{◌≡◌, ◌∙◌, subst}
use Rattle.tsn_desk.specs.declared.desk.Desk.{Desk}
use Rattle.tsn_desk.specs.Desks.{seen}
use Rattle.tsn_machine.specs.History.{Begins}
use Rattle.tsn_bridge.specs.State.{State}
use Rattle.tsn_commands.specs.declared.command.Ask.{Ask}
use Rattle.tsn_commands.specs.declared.reply.Reply.{Reply}
use Rattle.tsn_port.specs.declared.worker.PortWorker.{PortWorker}
use Rattle.tsn_port.specs.Workers.{BridgeSeat, GoesOn, IsWorkerOf, last_seen, port_of}
use Rattle.tsn_port.proofs.Working.{goes_both}
use Rattle.tsn_serve.specs.declared.probing.Probe.{Probe}
use Rattle.tsn_serve.specs.Probes.{IsProbed}
use Rattle.tsn_machine.proofs.Begin.{begins_self}

pub started : (desk : Desk State Ask Reply) (probe : Probe) (seat : BridgeSeat) (worker : PortWorker) → GoesOn desk probe.seat seat
    → IsWorkerOf desk worker → port_of worker ≡ probe.port → last_seen worker ≡ seen seat → IsProbed desk probe (seat, worker)
started desk probe seat worker goes is port last =
    record { goes = goes; worker = is; last = subst (λ h. Begins (last_seen worker) h) last (begins_self (last_seen worker)); port = port }

pub rounded : (desk : Desk State Ask Reply) (probe : Probe) (seat back : BridgeSeat) (worker worker' : PortWorker)
    → IsProbed desk probe (seat, worker) → GoesOn desk seat back → IsWorkerOf desk worker' → Begins (last_seen worker') (seen back)
    → port_of worker' ≡ port_of worker → IsProbed desk probe (back, worker')
rounded desk probe seat back worker worker' p goes is last port =
    record { goes = goes_both desk probe.seat seat back p.goes goes; worker = is; last = last; port = port ∙ p.port }
