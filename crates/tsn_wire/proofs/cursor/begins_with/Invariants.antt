use Rattle.std.proofs.Common.{◌-◌, ◌≡◌, ◌≢◌, ◌≤◌, ◌++◌, ℕ, List, IsTrue, false, length, take}
use Rattle.tsn_wire.proofs.cursor.begins_with.Given as goal

abbrev pub invariant-bytes : goal.invariant-bytes
invariant-bytes l =
    (l.count ≤ length l.piece)
    × (length l.piece ≤ length l.text)
    × (IsTrue l.is_same → take l.count l.text ≡ take l.count l.piece)
    × (l.is_same ≡ false → (rest : List ℕ) → l.text ≢ l.piece ++ rest)

abbrev pub decreases-bytes : goal.decreases-bytes
decreases-bytes l = length l.piece - l.count
