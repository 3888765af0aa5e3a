use Rattle.std.proofs.Common.{◌++◌, ◌∷◌, [], ◌+◌, Ok, ap, arith, length, take, drop, refl, sym, take-append-drop}
use Rattle.tsn_serve.specs.Lines.{line_feed}
use Rattle.tsn_serve.proofs.Running.{fed_whole, fed_as, broken_whole, broken_as, broken_more}
use Rattle.tsn_serve.proofs.responder.feed_front.Goals as goal

pub returns-in-None-clause-front : goal.returns-in-None-clause-front
returns-in-None-clause-front g c =
    let same = c.in-Ok-None.ensures.none (ap Ok c.in-Ok-None.field-0-is) in
    rw same.1 at (rw same.0 at c.feed_part-in-None.ensures.front)

pub returns-in-Ok-clause-front : goal.returns-in-Ok-clause-front
returns-in-Ok-clause-front g c =
    let same = c.in-Ok-None.ensures.none (ap Ok c.in-Ok-None.field-0-is) in
    let ok = c.in-Ok.ensures.ok in
    let whole = c.in-Some.whole.now in (
      omega arith,
      omega (arith, c.in-Some.ensures.bytes.0),
      (
        ok.0,
        fed_as g.A.Responder.answers c.args.responder.now c.answer.new.self c.args.line.now c.args.line.now (whole ++ line_feed ∷ [])
            (take (length whole + 1) c.args.bytes.now) ok.0
            (sym c.in-Some.ensures.bytes.1)
            (fed_whole g.A.Responder.answers c.args.responder.now c.args.line.now whole ok.0 c.answer.new.self
            (c.if-not-is_empty.ensures.0 refl) c.in-Some.ensures.one c.in-Some.ensures.short (rw same.0 at ok.1)),
        rw same.1 at ok.2,
      ),
    )

pub returns-in-Err-answer-clause-front : goal.returns-in-Err-answer-clause-front
returns-in-Err-answer-clause-front g c =
    let same = c.in-Ok-None.ensures.none (ap Ok c.in-Ok-None.field-0-is) in
    let broken = c.in-Err-answer.ensures.broken in
    let fault = c.in-Err-answer.fault in
    let whole = c.in-Some.whole.now in
    let bytes = c.args.bytes.now in
    let answers = g.A.Responder.answers in
    let breaks = g.A.Responder.breaks in
    let one = broken_whole answers breaks fault c.args.responder.now c.args.line.now whole broken.0 c.answer.new.self
    (c.if-not-is_empty.ensures.0 refl) c.in-Some.ensures.one c.in-Some.ensures.short (rw same.0 at broken.1) in
    let front = broken_as answers breaks fault c.args.responder.now c.answer.new.self c.args.line.now (whole ++ line_feed ∷ [])
    (take (length whole + 1) bytes) broken.0 (sym c.in-Some.ensures.bytes.1) one in (
      c.in-Err-answer.ensures.fault,
      (
        broken.0,
        broken_as answers breaks fault c.args.responder.now c.answer.new.self c.args.line.now _ bytes broken.0
            (take-append-drop (length whole + 1) bytes)
            (broken_more answers breaks fault c.args.responder.now c.answer.new.self c.args.line.now (take (length whole + 1) bytes)
            (drop (length whole + 1) bytes) broken.0 front),
        rw same.1 at broken.2,
      ),
    )
