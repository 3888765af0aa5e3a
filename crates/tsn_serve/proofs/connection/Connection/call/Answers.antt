use Rattle.std.proofs.Common.{◌≡◌, ◌∙◌, Some, sym, subst}
use Rattle.tsn_desk.specs.Desks.{HasTurned}
use Rattle.tsn_bridge.specs.contracts.machine.BridgeMachine.TheImpl.{ghosts}
use Rattle.tsn_bridge.specs.Turns.{Turns}
use Rattle.tsn_serve.specs.Talk.{Caller, Calls, caller_of}
use Rattle.tsn_serve.proofs.Going.{turn_calls}
use Rattle.tsn_serve.proofs.connection.Connection.call.Goals as goal

pub returns-in-Ok-clause-ok : goal.returns-in-Ok-clause-ok
returns-in-Ok-clause-ok g c =
    let desk = c.self.inside.desk.now in
    let new = c.turn_from-seat.result.0 in
    let reply = c.in-Ok.turn.reply in
    let there : c.self.inside.seat ≡ Some c.in-Some.seat = sym c.take.ensures.value ∙ c.in-Some.is in
    let turned : HasTurned {D = ghosts} Turns desk c.in-Some.seat c.args.ask c.in-Ok.turn.place reply new =
    rw c.in-Ok.is at c.turn_from-seat.ensures.turn in
    subst (λ (x : Caller). Calls x c.args.ask reply (caller_of desk new c.latest_after-self-inside.result)) c.self.view_is
    (turn_calls {D = ghosts} desk c.self.inside.seat c.in-Some.seat new c.args.ask c.in-Ok.turn.place reply c.self.inside.latest
    c.latest_after-self-inside.result there c.turn_from-seat.ensures.own.1 turned c.latest_after-self-inside.ensures)
