use Rattle.std.proofs.Common.{◌≡◌, ◌+◌, ◌++◌, take, length}
use Rattle.tsn_encoding.proofs.text.ShortText.push.Given as goal

abbrev pub invariant-loop-place : goal.invariant-loop-place
invariant-loop-place l =
    (take (l.at + l.place) l.self-inside.bytes ≡ take l.at l.initial.self-inside.bytes ++ take l.place l.piece)
    × (length l.self-inside.bytes ≡ length l.initial.self-inside.bytes)
