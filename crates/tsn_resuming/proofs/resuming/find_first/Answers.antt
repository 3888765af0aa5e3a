use Rattle.std.proofs.Common.{[], ◌∙◌}
use Rattle.tsn_resuming.proofs.Going.{at_false, stays_fed}
use Rattle.tsn_resuming.proofs.Starting.{has_no_line}
use Rattle.tsn_resuming.proofs.resuming.find_first.Goals as goal

pub returns-then-not-branch-clause-none : goal.returns-then-not-branch-clause-none
returns-then-not-branch-clause-none g c = λ before fed.
    has_no_line before _ _ _ _ (at_false _ c.if-not-branch.true c.in_ok-feed.ensures.end)
    c.if-advance.ensures.stays c.if-advance.ensures.reads (c.loop-made.invariant.0 before fed)

pub loop-made-preserved : goal.loop-made-preserved
loop-made-preserved g c = (
  λ before fed. c.in_ok-feed.ensures.fed before []
      (stays_fed before _ [] _ _ c.if-advance.ensures.stays (c.loop-made.invariant.0 before fed)),
  c.in_ok-feed.ensures.worked ∙ c.loop-made.invariant.1,
)
