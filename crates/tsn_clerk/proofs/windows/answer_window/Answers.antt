use Rattle.std.proofs.lemmas.Result.{on_ok_weaker}
use Rattle.tsn_lasting.proofs.Answering.{if_err_of, ok_of}
use Rattle.tsn_clerk.proofs.Going.{broke, fed, with_caller}
use Rattle.tsn_clerk.proofs.Telling.{settle_stays}
use Rattle.tsn_clerk.proofs.windows.answer_window.Goals as goal

pub returns-then-is_err-clause-goes : goal.returns-then-is_err-clause-goes
returns-then-is_err-clause-goes g c =
    let (fault, (written, breaks, appended)) = if_err_of c.feed.result c.if-is_err.ensures.value c.feed.ensures.broken in
    broke g.O.ByteOut.taken c.args.talk.now c.feed.new.responder c.args.line.now fault c.args.piece.now written c.requires breaks

pub returns-clause-goes : goal.returns-clause-goes
returns-clause-goes g c =
    let (text, feeds, appended) = ok_of c.feed.result c.if-is_err.ensures.value c.feed.ensures.ok in
    let went = fed g.O.ByteOut.taken c.args.talk.now c.feed.new.responder c.args.line.now c.feed.new.line c.args.piece.now text c.requires
    feeds in
    with_caller g.O.ByteOut.taken c.args.talk.now c.feed.new.responder c.settle.new.self went.0
    (settle_stays g.O.ByteOut.taken c.settle.result c.feed.new.responder c.settle.new.self c.settle.ensures.ok c.settle.ensures.err)

pub returns-clause-held : goal.returns-clause-held
returns-clause-held g c =
    let (text, feeds, appended) = ok_of c.feed.result c.if-is_err.ensures.value c.feed.ensures.ok in
    let went = fed g.O.ByteOut.taken c.args.talk.now c.feed.new.responder c.args.line.now c.feed.new.line c.args.piece.now text c.requires
    feeds in
    on_ok_weaker c.settle.result (λ _. went.1) c.settle.ensures.ok
