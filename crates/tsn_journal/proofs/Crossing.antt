-- A journal may go to another thread. Part by part, since a search of all of it would come to its limit.
use denote.Param.Send.{IsSend, sendable}
use Rattle.std.proofs.Crossing.{crosses}
use Rattle.tsn_table.proofs.Crossing.{table_send}
use Rattle.tsn_types.specs.contracts.records.Record as Record
use Rattle.tsn_entries.specs.contracts.entries.MarkedEntry as MarkedEntry
use Rattle.tsn_journal.specs.contracts.index.Index as Index
use Rattle.tsn_journal.specs.contracts.journal.Journal as Journal

record_send : IsSend (Record.the_field).row
record_send = search (crosses, sendable) depth 60 fits 20000

marked_send : IsSend (MarkedEntry.the_field).row
marked_send = search (record_send, crosses, sendable) depth 200 fits 20000

index_send : IsSend (Index.the_field).row
index_send = search (table_send, crosses, sendable) depth 200 fits 20000

pub journal_send : IsSend (Journal.the_field).row
journal_send = search (marked_send, index_send, crosses, sendable) depth 60 fits 20000
