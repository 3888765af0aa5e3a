use Rattle.std.proofs.lemmas.Result.{on_err_weaker, on_ok_weaker}
use Rattle.tsn_lasting.proofs.Answering.{if_err_of, ok_of, whole_broke, whole_settled}
use Rattle.tsn_lasting.proofs.Windows.{end_broke, ended}
use Rattle.tsn_lasting.proofs.running.end.Goals as goal

pub returns-then-is_err-clause-broken : goal.returns-then-is_err-clause-broken
returns-then-is_err-clause-broken g c = λ s0 input goes.
    let (fault, (written, breaks, appended)) = if_err_of c.finish.result c.if-is_err.ensures.value c.finish.ensures.broken in
    end_broke g.W.ByteOut.taken s0 input c.args.line.now c.args.lasting.now goes fault written c.finish.new.responder breaks

pub returns-clause-whole : goal.returns-clause-whole
returns-clause-whole g c =
    let (text, ends, appended) = ok_of c.finish.result c.if-is_err.ensures.value c.finish.ensures.ok in
    on_ok_weaker c.settle.result (λ hands s0 input goes. whole_settled g.W.ByteOut.taken s0 input c.finish.new.responder c.settle.new.self
    (ended g.W.ByteOut.taken s0 input c.args.line.now c.args.lasting.now goes text c.finish.new.responder ends) hands) c.settle.ensures.ok

pub returns-clause-broken : goal.returns-clause-broken
returns-clause-broken g c =
    let (text, ends, appended) = ok_of c.finish.result c.if-is_err.ensures.value c.finish.ensures.ok in
    on_err_weaker c.settle.result (λ breaks s0 input goes. whole_broke g.W.ByteOut.taken s0 input c.finish.new.responder c.settle.new.self
    (ended g.W.ByteOut.taken s0 input c.args.line.now c.args.lasting.now goes text c.finish.new.responder ends) breaks) c.settle.ensures.err
