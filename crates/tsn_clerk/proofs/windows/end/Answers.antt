use Rattle.tsn_lasting.proofs.Answering.{if_err_of, ok_of}
use Rattle.tsn_clerk.proofs.Going.{end_broke, ended, with_caller}
use Rattle.tsn_clerk.proofs.Telling.{settle_stays}
use Rattle.tsn_clerk.proofs.windows.end.Goals as goal

pub returns-then-is_err : goal.returns-then-is_err
returns-then-is_err g c =
    let (fault, (written, breaks, appended)) = if_err_of c.finish.result c.if-is_err.ensures.value c.finish.ensures.broken in
    end_broke g.O.ByteOut.taken c.args.talk.now c.finish.new.responder c.args.line.now fault written c.requires breaks

pub returns : goal.returns
returns g c =
    let (text, ends, appended) = ok_of c.finish.result c.if-is_err.ensures.value c.finish.ensures.ok in
    let went = ended g.O.ByteOut.taken c.args.talk.now c.finish.new.responder c.args.line.now text c.requires ends in
    with_caller g.O.ByteOut.taken c.args.talk.now c.finish.new.responder c.settle.new.self went
    (settle_stays g.O.ByteOut.taken c.settle.result c.finish.new.responder c.settle.new.self c.settle.ensures.ok c.settle.ensures.err)
