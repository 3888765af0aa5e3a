use Rattle.std.proofs.Common.{◌∙◌, sym}
use Rattle.tsn_program.proofs.states.take.Goals as goal

pub returns-in-None-clause-ok : goal.returns-in-None-clause-ok
returns-in-None-clause-ok c = (c.step-reply.result, c.step-reply.ensures, sym c.refusal_told.ensures ∙ c.in-None.is)

pub returns-in-Some-clause-refused : goal.returns-in-Some-clause-refused
returns-in-Some-clause-refused c =
    (c.step-reply.result, c.step-reply.new.self, c.step-reply.ensures, sym c.refusal_told.ensures ∙ c.in-Some.is)
