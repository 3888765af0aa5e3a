use Rattle.std.proofs.Common.{◌≡◌, ◌≤◌, take, length}
use Rattle.std.specs.Vec.{vec_len, vec_capacity}
use Rattle.tsn_entries.specs.Marks.{entries_of}
use Rattle.tsn_entries.proofs.entries.copied.Given as goal

-- the entries so far are copied, into room for all of them
abbrev pub invariant-loop-row : goal.invariant-loop-row
invariant-loop-row l = (l.copies.items ≡ entries_of (take l.row-index l.marked))
    × ((vec_len l.copies ≡ l.row-index) × (length l.marked ≤ vec_capacity l.copies))
