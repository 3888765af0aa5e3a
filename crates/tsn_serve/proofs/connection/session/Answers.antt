use Rattle.std.proofs.Common.{◌∙◌, ap, subst, None}
use Rattle.tsn_serve.specs.Outcomes.{most_reads}
use Rattle.tsn_serve.specs.Talk.{Caller, Talks, BreaksTalk, Goes, caller_of}
use Rattle.tsn_serve.proofs.Ending.{outcome_as}
use Rattle.tsn_serve.proofs.Going.{ends_go, whichever}
use Rattle.tsn_serve.proofs.connection.session.Goals as goal

pub into_seat-requires : goal.into_seat-requires
into_seat-requires g c =
    let goes = ends_go _ _ _ c.answer_lines-ended.result c.answer_lines-ended.ensures.outcome in (
      goes.desk ∙ ap (λ (x : Caller). x.desk) c.new-end.ensures,
      goes.first ∙ ap (λ (x : Caller). x.first) c.new-end.ensures,
    )

pub returns-clause-goes : goal.returns-clause-goes
returns-clause-goes g c =
    let goes = ends_go _ _ _ c.answer_lines-ended.result c.answer_lines-ended.ensures.outcome in
    let from : Goes (caller_of c.args.desk.now c.args.seat None) c.answer_lines-ended.new.responder = subst
    (λ (x : Caller). Goes x c.answer_lines-ended.new.responder) c.new-end.ensures goes in
    subst (λ (x : Caller). Goes (caller_of c.args.desk.now c.args.seat None) (record x { latest = None })) c.into_seat.ensures.same
    (whichever _ _ None from)

pub returns-clause-outcome : goal.returns-clause-outcome
returns-clause-outcome g c = (
  c.answer_lines-ended.new.responder.latest,
  outcome_as Talks BreaksTalk most_reads _ _ _ _ c.answer_lines-ended.result c.new-end.ensures c.into_seat.ensures.same
      c.answer_lines-ended.ensures.outcome,
)
