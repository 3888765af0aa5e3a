use Rattle.std.proofs.lemmas.Result.{on_err_weaker, on_ok_weaker}
use Rattle.tsn_lasting.proofs.Answering.{answered, broken, cut_off}
use Rattle.tsn_lasting.proofs.lasting.Lasting.answer_line.Goals as goal

pub returns-in-Ok-clause-ok : goal.returns-in-Ok-clause-ok
returns-in-Ok-clause-ok g c =
    let (rs, steps) = c.in-Ok.ensures.ok in
    on_ok_weaker c.tell.result (λ h. answered g.W.ByteOut.taken _ c.read_line-read.result c.in-Ok.reply rs c.args.self.now
    c.exchange.new.self c.tell.new.self c.read_line-read.ensures steps h) c.tell.ensures.ok

pub returns-in-Ok-clause-err : goal.returns-in-Ok-clause-err
returns-in-Ok-clause-err g c =
    let (rs, steps) = c.in-Ok.ensures.ok in
    on_err_weaker c.tell.result (λ h. broken g.W.ByteOut.taken _ c.read_line-read.result c.in-Ok.reply rs c.args.self.now
    c.exchange.new.self c.tell.new.self c.read_line-read.ensures steps h) c.tell.ensures.err

pub returns-in-Err-clause-err : goal.returns-in-Err-clause-err
returns-in-Err-clause-err g c = cut_off g.W.ByteOut.taken _ c.args.self.now c.exchange.new.self c.in-Err.ensures.err
