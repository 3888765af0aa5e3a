use Rattle.tsn_resuming.proofs.resuming.begin.Goals as goal

pub returns-in-Err-clause-fault : goal.returns-in-Err-clause-fault
returns-in-Err-clause-fault g c = c.fault_of_first.ensures _ _ c.in-Err.ensures
