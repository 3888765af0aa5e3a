use Rattle.std.proofs.Common.{ℕ, ◌++◌, List}
use Rattle.std.proofs.lemmas.Result.{on_err_weaker, on_ok_weaker}
use Rattle.tsn_lasting.specs.Parts.{standing}
use Rattle.tsn_lasting.specs.Running.{Goes}
use Rattle.tsn_lasting.specs.Standing.{Standing}
use Rattle.tsn_lasting.proofs.Answering.{if_err_of, ok_of, window_broke, window_settled}
use Rattle.tsn_lasting.proofs.Windows.{broke, fed}
use Rattle.tsn_lasting.proofs.running.answer_window.Given.{Over}
use Rattle.tsn_lasting.proofs.running.answer_window.Goals.{After-settle}
use Rattle.tsn_lasting.proofs.running.answer_window.Goals as goal

pub returns-then-is_err-clause-broken : goal.returns-then-is_err-clause-broken
returns-then-is_err-clause-broken g c = λ s0 input goes.
    let (fault, (written, breaks, appended)) = if_err_of c.feed.result c.if-is_err.ensures.value c.feed.ensures.broken in
    broke g.W.ByteOut.taken s0 input c.args.line.now c.args.lasting.now goes fault c.args.piece.now written c.feed.new.responder breaks

-- the lines of the piece are answered
gone : (g : Over) (c : After-settle g) (s0 : Standing) (input : List ℕ)
    → Goes s0 input c.args.line.now (standing g.W.ByteOut.taken c.args.lasting.now)
    → Goes s0 (input ++ c.args.piece.now) c.feed.new.line (standing g.W.ByteOut.taken c.feed.new.responder)
gone g c s0 input goes =
    let (text, feeds, appended) = ok_of c.feed.result c.if-is_err.ensures.value c.feed.ensures.ok in
    fed g.W.ByteOut.taken s0 input c.args.line.now c.args.lasting.now goes c.args.piece.now text c.feed.new.responder c.feed.new.line feeds

pub returns-clause-goes : goal.returns-clause-goes
returns-clause-goes g c =
    on_ok_weaker c.settle.result (λ hands s0 input goes. window_settled g.W.ByteOut.taken s0 (input ++ c.args.piece.now) c.feed.new.line
    c.feed.new.responder c.settle.new.self (gone g (goal.at.returns-clause-goes g c).After-settle s0 input goes) hands) c.settle.ensures.ok

pub returns-clause-broken : goal.returns-clause-broken
returns-clause-broken g c =
    on_err_weaker c.settle.result (λ off s0 input goes. window_broke g.W.ByteOut.taken s0 (input ++ c.args.piece.now) c.feed.new.line
    c.feed.new.responder c.settle.new.self (gone g (goal.at.returns-clause-broken g c).After-settle s0 input goes) off) c.settle.ensures.err
