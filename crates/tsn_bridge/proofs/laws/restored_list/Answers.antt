use Rattle.tsn_bridge.proofs.Headline.{gate_runs, port_runs}
use Rattle.tsn_bridge.proofs.laws.restored_list.Goals as goal

pub returns-clause-port : goal.returns-clause-port
returns-clause-port c ready port p sound is = port_runs ready port p sound is

pub returns-clause-gate : goal.returns-clause-gate
returns-clause-gate c ready gate g sound is = gate_runs ready gate g sound is
