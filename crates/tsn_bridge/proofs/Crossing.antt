-- A bridge may go to another thread. Part by part, since a search of all of it would come to its limit.
use denote.Param.Send.{IsSend, sendable}
use Rattle.std.proofs.Crossing.{crosses}
use Rattle.tsn_config.proofs.Crossing.{config_send}
use Rattle.tsn_journal.proofs.Crossing.{journal_send}
use Rattle.tsn_chain.proofs.Crossing.{runtime_send}
use Rattle.tsn_undo.specs.contracts.book.Book as Book
use Rattle.tsn_bridge.specs.contracts.pair.Pair as Pair
use Rattle.tsn_bridge.specs.contracts.bridge.Bridge as Bridge

book_send : IsSend (Book.the_field).row
book_send = search (config_send, journal_send, crosses, sendable) depth 60 fits 20000

pair_send : IsSend Pair.the_row
pair_send = search (book_send, runtime_send, crosses, sendable) depth 60 fits 20000

pub bridge_send : IsSend Bridge.the_row
bridge_send = search (pair_send, crosses, sendable) depth 60 fits 20000
