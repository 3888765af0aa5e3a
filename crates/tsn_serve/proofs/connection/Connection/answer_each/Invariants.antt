use Rattle.std.proofs.Common.{◌≡◌, ◌≤◌, List, ℕ, Some, [], length, take, drop}
use Rattle.std.specs.Io.KnownBytes.{Appends}
use Rattle.tsn_serve.specs.Pieces.{Feeds}
use Rattle.tsn_serve.specs.Lots.{IsLot}
use Rattle.tsn_serve.specs.Talk.{Talks}
use Rattle.tsn_serve.proofs.connection.Connection.answer_each.Given as goal

-- the lines to come are a lot of the bytes that are not done, and the others were answered
abbrev pub invariant-lines : goal.invariant-lines
invariant-lines g l =
    ((rest : List ℕ) × IsLot (drop l.done l._bytes) l.line-iterator.rest.items rest)
    × (l.done ≤ length l._bytes)
    × (length l.yielded ≤ l.done)
    × ((text : List ℕ) × Feeds Talks l.initial.self (Some []) (take l.done l._bytes) text l.self (Some [])
    × Appends (g.O.ByteOut.taken l.initial.writer) (g.O.ByteOut.taken l.writer) text)
    × (g.O.ByteOut.has_failed l.writer ≡ g.O.ByteOut.has_failed l.initial.writer)
