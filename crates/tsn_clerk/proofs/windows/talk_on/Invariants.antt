use Rattle.tsn_serve.specs.Talk.{Goes}
use Rattle.tsn_clerk.specs.Talking.{IsHeld}
use Rattle.tsn_clerk.proofs.windows.talk_on.Given as goal

-- its caller went on, and what is held is of a line
abbrev pub invariant-reads : goal.invariant-reads
invariant-reads g l = Goes l.initial.talk.caller l.talk.caller × IsHeld l.line
