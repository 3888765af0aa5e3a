-- A set of numbers may go to another thread.
use denote.RattleType.{RattleType}
use denote.Param.Send.{IsSend, IsSync, sendable}
use Rattle.std.proofs.Crossing.{crosses}
use Rattle.tsn_table.proofs.tree.Tree.TheLaws.TheKnot as knot
use Rattle.tsn_table.specs.contracts.numbers.Numbers as Numbers
use Rattle.tsn_table.specs.contracts.Table as Table

pub numbers_send : IsSend Numbers.the_row
numbers_send = search (knot.crosses, sendable, crosses) depth 60 fits 20000

-- a table may go to another thread where its rows may, and threads may share one where they may share its rows
module _ (R : RattleType) where
  pub table_send : IsSend R → IsSend (Table.the_field R).row
  table_send s = search (sendable, crosses) depth 60 fits 20000

  pub table_sync : IsSync R → IsSync (Table.the_field R).row
  table_sync s = search (sendable, crosses) depth 60 fits 20000
