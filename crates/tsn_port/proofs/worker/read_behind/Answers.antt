use Rattle.tsn_port.proofs.Working.{has_read, since_answered}
use Rattle.tsn_port.proofs.worker.read_behind.Goals as goal

pub entries_in-requires : goal.entries_in-requires
entries_in-requires g c =
    let turned = rw c.in-Ok.is at c.ask-seat.ensures.turned in
    since_answered c.args.desk.now c.args.seat c.ask-seat.result.0 c.in-Ok.turn.place c.in-Ok.turn.reply c.requires.1 c.args.session
    c.requires.2 c.args.after turned

pub returns-in-Ok-entries_in-clause-read : goal.returns-in-Ok-entries_in-clause-read
returns-in-Ok-entries_in-clause-read g c =
    let turned = rw c.in-Ok.is at c.ask-seat.ensures.turned in
    has_read c.args.desk.now c.args.seat c.ask-seat.result.0 c.in-Ok.turn.place c.in-Ok.turn.reply c.requires.1 c.args.session c.requires.2
    c.args.after c.in-Ok-entries_in.entries c.in-Ok-entries_in.ensures.ok turned
