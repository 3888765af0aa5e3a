use Rattle.std.proofs.Common.{◌∙◌, inr, subst, sym}
use Rattle.std.proofs.lemmas.Result.{err_from_is_err_and}
use Rattle.tsn_resuming.specs.Standing.{IsThrough}
use Rattle.tsn_resuming.proofs.Going.{at_false, through_to_end, way_on}
use Rattle.tsn_resuming.proofs.resuming.step_all.Goals as goal

pub returns-in_err-step_lines-clause-fault : goal.returns-in_err-step_lines-clause-fault
returns-in_err-step_lines-clause-fault g c = λ before setup way.
    let gone = err_from_is_err_and c.from_residual.result c.from_residual.ensures.1 in
    rw (gone.1, gone.2) (inr (c.in_err-step_lines.ensures.fault before _ setup (c.loop-made.invariant.0 before setup way)))

pub returns-then-not-branch-clause-through : goal.returns-then-not-branch-clause-through
returns-then-not-branch-clause-through g c = λ before setup way.
    let ended = at_false _ c.if-not-branch.true c.in_ok-feed.ensures.end in (
      subst (λ s. IsThrough before (g.R.ByteIn.remaining c.feed.new.file) setup s c.step_lines.new.bridge)
          (sym (at_false _ c.if-not-branch.true c.in_ok-feed.ensures.stays))
          (through_to_end before _ _ setup _ _ ended
          (c.in_ok-step_lines.ensures.through before _ setup (c.loop-made.invariant.0 before setup way))),
      ended.all,
    )

pub loop-made-preserved : goal.loop-made-preserved
loop-made-preserved g c = (
  λ before setup way. way_on before _ _ setup _ _ _ (c.in_ok-feed.ensures.fed before)
      (c.in_ok-step_lines.ensures.through before _ setup (c.loop-made.invariant.0 before setup way)),
  c.in_ok-feed.ensures.worked ∙ c.loop-made.invariant.1,
  λ reached. c.in_ok-step_lines.ensures.reached (c.loop-made.invariant.2 reached),
)
