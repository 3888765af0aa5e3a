use Rattle.std.proofs.Common.{sym, subst}
use Rattle.tsn_resuming.specs.Standing.{IsRefused, IsStepped}
use Rattle.tsn_resuming.proofs.Going.{goes_on, is_through, refused_at}
use Rattle.tsn_resuming.proofs.Starting.{stopped, unless_memory}
use Rattle.tsn_resuming.proofs.resuming.step_lines.Goals as goal

pub lines-preserved : goal.lines-preserved
lines-preserved g c = (
  λ before now setup way.
      goes_on before now setup _ _ _ _ c.lines-test.ensures.given
      (subst (λ command. IsStepped c.lines.bridge command c.step.new.bridge) c.command.ensures c.in_default.ensures.stepped)
      (c.lines.invariant.0 before now setup way),
  λ reached. c.in_default.ensures.reached (c.lines.invariant.1 reached),
)

pub returns-in-Err-clause-fault : goal.returns-in-Err-clause-fault
returns-in-Err-clause-fault g c = λ before now setup way.
    stopped before now c.lines-in-Err.result c.in-Err.why _ c.fault_of_line.ensures
    (λ known. refused_at before now setup _ c.advance.new.self c.lines.bridge _ _ c.lines-test.ensures.given (sym c.lines-in-Err.ensures)
    (subst (λ command. IsRefused c.lines.bridge command c.in-Err.why) c.command.ensures (unless_memory _ c.in-Err.ensures.refused known))
    known (c.lines.invariant.0 before now setup way))

pub returns-clause-through : goal.returns-clause-through
returns-clause-through g c = λ before now setup way.
    is_through before now setup _ _ _ c.lines-test.ensures.stays c.lines-test.ensures.reads (c.lines.invariant.0 before now setup way)
