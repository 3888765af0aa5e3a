use Rattle.tsn_port.proofs.Working.{hello_answered, said_hello}
use Rattle.tsn_port.proofs.worker.say_hello.Goals as goal

pub session_in-requires : goal.session_in-requires
session_in-requires g c =
    let turned = rw c.in-Ok.is at c.ask-seat.ensures.turned in
    hello_answered c.args.desk.now c.args.seat c.ask-seat.result.0 c.in-Ok.turn.place c.in-Ok.turn.reply c.requires.1 c.args.name turned

pub returns-in-Ok-session_in-clause-said : goal.returns-in-Ok-session_in-clause-said
returns-in-Ok-session_in-clause-said g c =
    let turned = rw c.in-Ok.is at c.ask-seat.ensures.turned in
    said_hello c.args.desk.now c.args.seat c.ask-seat.result.0 c.in-Ok.turn.place c.in-Ok.turn.reply c.requires.1 c.args.name
    c.in-Ok-session_in.session c.in-Ok-session_in.ensures.ok turned
