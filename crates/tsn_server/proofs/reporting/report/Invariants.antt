use Rattle.std.proofs.Common.{All, ℕ, List}
use Rattle.std.specs.Io.KnownBytes.{Appends}
use Rattle.tsn_server.specs.Reporting.{IsRested, Reports}
use Rattle.tsn_server.proofs.reporting.report.Given as goal

-- the workers to come are rested, and the lines of the others were written
abbrev pub invariant-workers : goal.invariant-workers
invariant-workers g l =
    All (λ p. IsRested l.desk p) l.pair-iterator.rest.items
    × ((text : List ℕ) × Reports l.desk l.at l.yielded text × Appends (g.W.ByteOut.taken l.fn.writer) (g.W.ByteOut.taken l.writer) text)
