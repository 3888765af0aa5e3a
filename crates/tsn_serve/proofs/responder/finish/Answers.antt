use Rattle.std.proofs.Common.{[], ◌≡◌, true, false, subst}
use Rattle.std.proofs.KnownBytes.{Appends-nil}
use Rattle.std.proofs.lemmas.Result.{IfOk-weaker, IfErr-weaker}
use Rattle.tsn_serve.proofs.Running.{ended_empty, ended_with, broken_at_end}
use Rattle.tsn_serve.proofs.responder.finish.Goals as goal

pub returns-then-is_empty-clause-ok : goal.returns-then-is_empty-clause-ok
returns-then-is_empty-clause-ok g c =
    ([], ended_empty g.A.Responder.answers c.args.responder.now c.args.line.now (c.is_empty.ensures.0 c.if-is_empty.true), Appends-nil _)

pub returns-clause-ok : goal.returns-clause-ok
returns-clause-ok g c =
    IfOk-weaker c.answer.result _ _
    (λ _ ok. (
      ok.0,
      ended_with g.A.Responder.answers c.args.responder.now c.args.line.now ok.0 c.answer.new.self
          (λ e. let t : false ≡ true = c.if-is_empty.ensures.1 e in cc)
          (subst (λ k. g.A.Responder.answers c.args.responder.now k ok.0 c.answer.new.self) c.get.ensures ok.1),
      ok.2,
    ))
    c.answer.ensures.ok

pub returns-clause-broken : goal.returns-clause-broken
returns-clause-broken g c =
    IfErr-weaker c.answer.result _ _
    (λ fault broken. (
      broken.0,
      broken_at_end g.A.Responder.answers g.A.Responder.breaks fault c.args.responder.now c.args.line.now broken.0 c.answer.new.self
          (λ e. let t : false ≡ true = c.if-is_empty.ensures.1 e in cc)
          (subst (λ k. g.A.Responder.breaks c.args.responder.now k fault broken.0 c.answer.new.self) c.get.ensures broken.1),
      broken.2,
    ))
    c.answer.ensures.broken
