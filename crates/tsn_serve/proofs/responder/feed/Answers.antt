use Rattle.std.proofs.Common.{◌≤◌, ◌-◌, ◌++◌, ◌+◌, [], length, length-drop, take, take-append-drop, sym, ap, refl, ◌∙◌, arith}
use Rattle.std.proofs.KnownBytes.{Appends-nil, Appends-trans}
use Rattle.std.proofs.Math.Seq.{take-add}
use Rattle.std.proofs.lemmas.List.{take_rest}
use Rattle.tsn_serve.proofs.Running.{fed_more, fed_as, fed_nothing, broken_after, broken_as}
use Rattle.tsn_serve.proofs.responder.feed.Goals as goal

pub bytes-init : goal.bytes-init
bytes-init g c = ([], fed_nothing g.A.Responder.answers c.args.responder.now c.args.line.now, Appends-nil _, refl, omega arith)

pub bytes-preserved : goal.bytes-preserved
bytes-preserved g c =
    let before = c.bytes.invariant in
    let front = c.in-Ok.ensures.front in
    let ok = front.2 in
    let piece = c.args.piece.now in
    let i = c.bytes.done in
    let n = c.in-Ok.count in
    let fits : n ≤ length piece - i = simp length-drop at (rw (take_rest piece i) at front.1) in (
      before.0 ++ ok.0,
      fed_as g.A.Responder.answers c.args.responder.now c.feed_front.new.responder c.args.line.now c.feed_front.new.line _
          (take (i + n) piece) (before.0 ++ ok.0)
          (ap (λ l. take i piece ++ take n l) (take_rest piece i) ∙ sym (take-add i n piece))
          (fed_more g.A.Responder.answers c.args.responder.now c.bytes.responder c.feed_front.new.responder c.args.line.now c.bytes.line
          c.feed_front.new.line (take i piece) _ before.0 ok.0 before.1 ok.1),
      Appends-trans _ _ _ _ _ before.2 ok.2,
      c.in-Ok.ensures.worked (λ e. cc) ∙ before.3,
      omega (arith, fits, before.4),
    )

pub returns-in-Err-clause-broken : goal.returns-in-Err-clause-broken
returns-in-Err-clause-broken g c =
    let before = c.bytes.invariant in
    let broken = c.in-Err.ensures.front.1 in
    let piece = c.args.piece.now in
    let i = c.bytes.done in (
      before.0 ++ broken.0,
      broken_as g.A.Responder.answers g.A.Responder.breaks c.in-Err.fault c.args.responder.now c.feed_front.new.responder c.args.line.now _
          piece (before.0 ++ broken.0)
          (ap (λ l. take i piece ++ l) (take_rest piece i) ∙ take-append-drop i piece)
          (broken_after g.A.Responder.answers g.A.Responder.breaks c.in-Err.fault c.args.responder.now c.bytes.responder
          c.feed_front.new.responder c.args.line.now c.bytes.line (take i piece) _ before.0 broken.0 before.1 broken.1),
      Appends-trans _ _ _ _ _ before.2 broken.2,
    )
