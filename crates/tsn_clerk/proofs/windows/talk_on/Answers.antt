use Rattle.tsn_serve.proofs.Going.{on, stays}
use Rattle.tsn_clerk.proofs.windows.talk_on.Goals as goal

pub returns-in_default : goal.returns-in_default
returns-in_default g c = c.reads.invariant.0

pub reads-init : goal.reads-init
reads-init g c = (stays c.args.talk.now.caller, c.requires)

pub reads-preserved : goal.reads-preserved
reads-preserved g c = (
  on c.args.talk.now.caller c.reads.talk.caller c.answer_window.new.talk.caller c.reads.invariant.0
      c.in_ok-answer_window.ensures.goes,
  c.in_ok-answer_window.ensures.held,
)

pub returns-then-count-eq0 : goal.returns-then-count-eq0
returns-then-count-eq0 g c = on c.args.talk.now.caller c.reads.talk.caller c.end.new.talk.caller c.reads.invariant.0 c.end.ensures

pub returns-in_err-answer_window : goal.returns-in_err-answer_window
returns-in_err-answer_window g c =
    on c.args.talk.now.caller c.reads.talk.caller c.answer_window.new.talk.caller c.reads.invariant.0 c.in_err-answer_window.ensures.goes

pub returns : goal.returns
returns g c = c.reads.invariant.0
