use Rattle.std.proofs.Common.{inl, inr, refl, subst, sym}
use Rattle.tsn_port.specs.Workers.{IsStartFault}
use Rattle.tsn_port.proofs.Working.{look_answered, looked, over_the_limits}
use Rattle.tsn_port.proofs.worker.look.Goals as goal

pub record_in-requires : goal.record_in-requires
record_in-requires g c =
    let turned = rw c.in-Ok.is at c.ask-seat.ensures.turned in
    look_answered c.args.desk.now c.args.seat c.ask-seat.result.0 c.in-Ok.turn.place c.in-Ok.turn.reply c.requires.1 c.args.session
    c.requires.2 c.args.port c.requires.3 turned

pub returns-in-Ok-record_in-clause-looked : goal.returns-in-Ok-record_in-clause-looked
returns-in-Ok-record_in-clause-looked g c =
    let turned = rw c.in-Ok.is at c.ask-seat.ensures.turned in
    looked c.args.desk.now c.args.seat c.ask-seat.result.0 c.in-Ok.turn.place c.in-Ok.turn.reply c.requires.1 c.args.session c.requires.2
    c.args.port c.requires.3 c.in-Ok-record_in.value c.in-Ok-record_in.ensures.ok turned

pub returns-in-Err-record_in-clause-fault : goal.returns-in-Err-record_in-clause-fault
returns-in-Err-record_in-clause-fault g c =
    let turned = rw c.in-Ok.is at c.ask-seat.ensures.turned in
    elim c.in-Err-record_in.ensures.fault as (λ _. IsStartFault c.args.desk.now c.args.port c.in-Err-record_in.fault c.ask-seat.result.0) [
      | inl memory ↦ subst (λ f. IsStartFault c.args.desk.now c.args.port f c.ask-seat.result.0) (sym memory) tt
      | inr over ↦ subst (λ f. IsStartFault c.args.desk.now c.args.port f c.ask-seat.result.0) (sym over.0)
          (inr (
            refl,
            over_the_limits c.args.desk.now c.args.seat c.ask-seat.result.0 c.in-Ok.turn.place c.in-Ok.turn.reply c.requires.1
                c.args.session c.requires.2 c.args.port c.requires.3 over.1 turned,
          ))
    ]
