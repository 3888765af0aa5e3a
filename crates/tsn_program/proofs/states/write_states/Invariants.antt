use Rattle.std.proofs.Common.{◌≡◌}
use Rattle.std.specs.Io.KnownBytes.{Appends}
use Rattle.tsn_program.specs.Listing.{lines}
use Rattle.tsn_program.proofs.states.write_states.Given as goal

-- the lines before this one were written, no call failed, and the bridge is as it was
abbrev pub invariant-loop-place : goal.invariant-loop-place
invariant-loop-place g l =
    (l.bridge ≡ l.initial.bridge)
    × Appends (g.W.ByteOut.taken l.initial.writer) (g.W.ByteOut.taken l.writer) (lines l.initial.bridge l.listing l.place)
    × (g.W.ByteOut.has_failed l.writer ≡ g.W.ByteOut.has_failed l.initial.writer)
