-- What runs of a bridge may go to another thread. Part by part, since a search of all of it would come to its limit.
use denote.Param.Send.{IsSend, sendable}
use Rattle.std.proofs.Crossing.{crosses}
use Rattle.tsn_table.proofs.Crossing.{table_send}
use Rattle.tsn_types.specs.contracts.records.GateEntry as GateEntry
use Rattle.tsn_types.specs.contracts.records.PortEntry as PortEntry
use Rattle.tsn_schedule.specs.contracts.runner.Runner as Runner
use Rattle.tsn_schedule.specs.contracts.timed.GateEntryTimed.TheImpl as of_gates
use Rattle.tsn_schedule.specs.contracts.timed.PortEntryTimed.TheImpl as of_ports
use Rattle.tsn_chain.specs.contracts.frames.FrameRows as FrameRows
use Rattle.tsn_chain.specs.contracts.runtime.Runtime as Runtime

ports_send : IsSend (Runner.the_row PortEntry.the_row of_ports.ghosts)
ports_send = search (crosses, sendable) depth 60 fits 20000

gates_send : IsSend (Runner.the_row GateEntry.the_row of_gates.ghosts)
gates_send = search (crosses, sendable) depth 60 fits 20000

rows_send : IsSend (FrameRows.the_field).row
rows_send = search (table_send, crosses, sendable) depth 200 fits 20000

pub runtime_send : IsSend (Runtime.the_field).row
runtime_send = search (ports_send, gates_send, rows_send, table_send, crosses, sendable) depth 200 fits 20000
