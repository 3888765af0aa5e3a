use Rattle.std.proofs.lemmas.Result.{err_from_is_err_and}
use Rattle.tsn_replies.specs.Replies.{reply_text}
use Rattle.tsn_lasting.proofs.Answering.{err_of, ok_of}
use Rattle.tsn_clerk.proofs.Telling.{cut_directly, not_settled, told_directly}
use Rattle.tsn_clerk.proofs.talk.Talk.tell.Goals as goal

pub returns-clause-ok : goal.returns-clause-ok
returns-clause-ok g c =
    told_directly g.O.ByteOut.taken _ c.args.self.now c.self.view_is c.hold.new.self (reply_text c.args.reply.now)
    (c.hold.ensures.none c.if-hold.false) _ c.settle.new.self c.in_ok-settle.ensures.ok c.self-2.view_is
    c.write_reply.new.writer (ok_of c.write_reply.result c.if-is_err.ensures.value c.write_reply.ensures.ok)

pub returns-then-is_err-clause-err : goal.returns-then-is_err-clause-err
returns-then-is_err-clause-err g c =
    cut_directly g.O.ByteOut.taken _ c.args.self.now c.self.view_is c.hold.new.self (reply_text c.args.reply.now)
    (c.hold.ensures.none c.if-hold.false) _ c.settle.new.self c.in_ok-settle.ensures.ok c.self-2.view_is
    c.write_reply.new.writer (err_of c.write_reply.result c.if-is_err.ensures.value c.write_reply.ensures.cut)

pub returns-in_err-settle-clause-err : goal.returns-in_err-settle-clause-err
returns-in_err-settle-clause-err g c =
    let gone = err_from_is_err_and c.from_residual.result c.from_residual.ensures.1 in
    rw gone.1
    (not_settled g.O.ByteOut.taken _ c.args.self.now c.self.view_is c.hold.new.self (reply_text c.args.reply.now)
    (c.hold.ensures.none c.if-hold.false) c.settle.new.self c.in_err-settle.ensures.err)
