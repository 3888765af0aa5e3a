use Rattle.std.proofs.Common.{Ok, Err, rules, arith}
use Rattle.std.proofs.lemmas.Grind.{common_steps}
use Rattle.tsn_failures.specs.declared.failures.Failure.TheVariants as failures
use Rattle.tsn_connections.proofs.serving.serve.Goals as goal

pub returns-in-Ok : goal.returns-in-Ok
returns-in-Ok g c = (Ok tt, search rules, search rules)

pub returns-in-Err-Fault : goal.returns-in-Err-Fault
returns-in-Err-Fault g c = (Err (failures.Fault c.in-Err-Fault.fault), grind (arith, common_steps), search rules)

pub returns-in-Err-Refused : goal.returns-in-Err-Refused
returns-in-Err-Refused g c = (Err (failures.Refused c.in-Err-Refused.why), search rules, search rules)
