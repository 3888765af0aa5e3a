-- A configuration may go to another thread.
use denote.Param.Send.{IsSend, sendable}
use Rattle.std.proofs.Crossing.{crosses}
use Rattle.tsn_table.proofs.Crossing.{numbers_send, table_send}
use Rattle.tsn_config.specs.contracts.Config as Config

pub config_send : IsSend (Config.the_field).row
config_send = search (numbers_send, table_send, crosses, sendable) depth 200 fits 20000
