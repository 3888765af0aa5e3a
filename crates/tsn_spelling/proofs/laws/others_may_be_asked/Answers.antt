use Rattle.tsn_spelling.proofs.Holding.{acts_may_be_asked, hello_may_be_asked}
use Rattle.tsn_spelling.proofs.laws.others_may_be_asked.Goals as goal

pub returns-clause-hello : goal.returns-clause-hello
returns-clause-hello c = hello_may_be_asked

pub returns-clause-acts : goal.returns-clause-acts
returns-clause-acts c = acts_may_be_asked
