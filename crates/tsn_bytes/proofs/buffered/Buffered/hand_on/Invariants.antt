use Rattle.std.proofs.Common.{◌-◌, ◌≡◌, ◌≤◌, drop, vec_len}
use Rattle.std.specs.Io.KnownBytes.{append_known, Keeps}
use Rattle.tsn_bytes.proofs.buffered.Buffered.hand_on.Given as goal

abbrev pub invariant-puts : goal.invariant-puts
invariant-puts g l =
    (l.self-inside.start ≤ vec_len l.self-inside.bytes)
    × (l.self-inside.bytes ≡ l.initial.self-inside.bytes)
    × (g.W.ByteOut.has_failed l.self-inside.inner ≡ g.W.ByteOut.has_failed l.initial.self-inside.inner)
    × Keeps (append_known (g.W.ByteOut.taken l.initial.self-inside.inner)
    (drop l.initial.self-inside.start l.initial.self-inside.bytes.items))
    (append_known (g.W.ByteOut.taken l.self-inside.inner) (drop l.self-inside.start l.self-inside.bytes.items))

abbrev pub decreases-puts : goal.decreases-puts
decreases-puts g l = vec_len l.self-inside.bytes - l.self-inside.start
