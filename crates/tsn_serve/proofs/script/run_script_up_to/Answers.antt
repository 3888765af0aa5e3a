use Rattle.tsn_serve.proofs.Writing.{never_exhausted}
use Rattle.tsn_serve.proofs.script.run_script_up_to.Goals as goal

pub returns-clause-never_exhausted : goal.returns-clause-never_exhausted
returns-clause-never_exhausted g c = never_exhausted _ _ _ c.answer_lines.result c.answer_lines.ensures.outcome
