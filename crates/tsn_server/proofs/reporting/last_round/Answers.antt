use Rattle.std.proofs.Common.{rules}
use Rattle.tsn_desk.specs.Desks.{seen}
use Rattle.tsn_server.proofs.reporting.last_round.Goals as goal

-- past in the state that ends the history that the seat has then seen
pub returns-in-Err-Past-clause-told : goal.returns-in-Err-Past-clause-told
returns-in-Err-Past-clause-told g c =
    (seen c.round-seat.result.0, c.round-seat.ensures.goes.seen_more, c.round-seat.ensures.past (search rules))
