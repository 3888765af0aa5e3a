-- The seats of a bridge's desk may go to another thread, and threads may share the desk.
use denote.Param.Send.{IsSend, IsSync}
use Rattle.tsn_desk.specs.contracts.desk.Desk as Desk
use Rattle.tsn_desk.specs.contracts.desk.Seat as Seat
use Rattle.tsn_desk.proofs.desk.Desk.TheSendSync as of_desk
use Rattle.tsn_desk.proofs.desk.Seat.TheSendSync as of_seat
use Rattle.tsn_bridge.specs.contracts.bridge.Bridge as Bridge
use Rattle.tsn_commands.specs.contracts.command.Ask as Ask
use Rattle.tsn_commands.specs.contracts.reply.Reply as Reply
use Rattle.tsn_bridge.specs.contracts.machine.BridgeMachine.TheImpl.{ghosts}
use Rattle.tsn_bridge.proofs.Crossing.{bridge_send}

pub seat_send : IsSend (Seat.the_row Bridge.the_row Ask.the_row Reply.the_row ghosts)
seat_send = of_seat.the_send Bridge.the_row Ask.the_row Reply.the_row ghosts bridge_send

pub desk_sync : IsSync (Desk.the_row Bridge.the_row Ask.the_row Reply.the_row ghosts)
desk_sync = of_desk.the_sync Bridge.the_row Ask.the_row Reply.the_row ghosts bridge_send
