use Rattle.std.proofs.lemmas.Result.{err_from_is_err_and, on_err_weaker, on_ok_weaker}
use Rattle.tsn_clerk.proofs.Telling.{answered, broken, cut_off}
use Rattle.tsn_clerk.proofs.talk.Talk.answer_line.Goals as goal

pub returns-clause-ok : goal.returns-clause-ok
returns-clause-ok g c = on_ok_weaker c.tell.result
    (λ h. answered g.O.ByteOut.taken c.args.self.now c.exchange.new.self c.tell.new.self _ c.in_ok-reply.reply c.in_ok-reply.ensures.ok h)
    c.tell.ensures.ok

pub returns-clause-err : goal.returns-clause-err
returns-clause-err g c = on_err_weaker c.tell.result
    (λ h. broken g.O.ByteOut.taken c.args.self.now c.exchange.new.self c.tell.new.self _ c.in_ok-reply.reply c.in_ok-reply.ensures.ok h)
    c.tell.ensures.err

pub returns-in_err-reply-clause-err : goal.returns-in_err-reply-clause-err
returns-in_err-reply-clause-err g c =
    let gone = err_from_is_err_and c.from_residual.result c.from_residual.ensures.1 in
    rw gone.1 (cut_off g.O.ByteOut.taken c.args.self.now c.exchange.new.self _ c.in_err-reply.ensures.err.0 c.in_err-reply.ensures.err.1)
