use Rattle.tsn_keeping.proofs.Entering.{all_settled, one_more}
use Rattle.tsn_keeping.proofs.laws.enters.Goals as goal

pub returns-clause-one : goal.returns-clause-one
returns-clause-one c had first settled others r k h = one_more had first settled others k h r

pub returns-clause-settled : goal.returns-clause-settled
returns-clause-settled c = all_settled
