use Rattle.std.proofs.Common.{◌≡◌, ◌++◌, ◌∷◌, [], ◌∙◌, ap, arith, drop, length, refl, subst, sym, take, take-append-drop}
use Rattle.std.proofs.lemmas.Grind.{common_steps}
use Rattle.std.proofs.lemmas.List.{take_more}
use Rattle.std.proofs.KnownBytes.{Appends-nil}
use Rattle.tsn_serve.specs.Lines.{line_feed}
use Rattle.tsn_serve.proofs.Running.{fed_as, fed_bytes, fed_line, broken_as, broken_line, broken_more}
use Rattle.tsn_serve.proofs.responder.feed_part.Goals as goal

pub returns-in-Ok-clause-front : goal.returns-in-Ok-clause-front
returns-in-Ok-clause-front g c =
    let ok = c.in-Ok.ensures.ok in
    let bytes = c.args.bytes.now in
    let first : line_feed ∷ [] ≡ take 1 bytes = sym (take_more bytes 0 0 c.requires ∙ ap (λ b. b ∷ []) c.if-bytes-eq10.true) in (
      omega arith,
      c.requires,
      (
        ok.0,
        fed_as g.A.Responder.answers c.args.responder.now c.answer.new.self c.args.line.now c.clear.new.self (line_feed ∷ []) (take 1 bytes)
            ok.0 first
            (fed_line g.A.Responder.answers c.args.responder.now c.args.line.now line_feed ok.0 c.answer.new.self c.clear.new.self refl
            c.clear.ensures
            (subst (λ k. g.A.Responder.answers c.args.responder.now k ok.0 c.answer.new.self) c.get.ensures ok.1)),
        ok.2,
      ),
    )

pub returns-in-Err-clause-front : goal.returns-in-Err-clause-front
returns-in-Err-clause-front g c =
    let broken = c.in-Err.ensures.broken in
    let bytes = c.args.bytes.now in
    let answers = g.A.Responder.answers in
    let breaks = g.A.Responder.breaks in
    let fault = c.in-Err.fault in
    let first : line_feed ∷ [] ≡ take 1 bytes = sym (take_more bytes 0 0 c.requires ∙ ap (λ b. b ∷ []) c.if-bytes-eq10.true) in (
      c.in-Err.ensures.fault,
      (
        broken.0,
        broken_as answers breaks fault c.args.responder.now c.answer.new.self c.args.line.now _ bytes broken.0
            (ap (λ l. l ++ drop 1 bytes) first ∙ take-append-drop 1 bytes)
            (broken_more answers breaks fault c.args.responder.now c.answer.new.self c.args.line.now (line_feed ∷ []) (drop 1 bytes)
            broken.0
            (broken_line answers breaks fault c.args.responder.now c.args.line.now line_feed broken.0 c.answer.new.self refl
            (subst (λ k. breaks c.args.responder.now k fault broken.0 c.answer.new.self) c.get.ensures broken.1))),
        broken.2,
      ),
    )

pub returns-clause-front : goal.returns-clause-front
returns-clause-front g c =
    let part = c.up_to_line_feed-part.result.now in (
      grind (arith, common_steps),
      c.up_to_line_feed-part.ensures.fits,
      (
        [],
        fed_as g.A.Responder.answers c.args.responder.now c.args.responder.now c.args.line.now c.push_all.new.self part
            (take (length part) c.args.bytes.now) []
            (sym c.up_to_line_feed-part.ensures.front)
            (fed_bytes g.A.Responder.answers c.args.responder.now c.args.line.now part c.push_all.new.self
            c.up_to_line_feed-part.ensures.one c.push_all.ensures),
        Appends-nil _,
      ),
    )
