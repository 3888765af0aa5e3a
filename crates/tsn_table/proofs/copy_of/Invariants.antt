use Rattle.std.proofs.Common.{◌≡◌, ℕ, ◌+◌, ◌≤◌, length, map, nat_eq}
use Rattle.std.specs.HashMap as hash
use Rattle.std.specs.Map.Iter.{deref_pair}
use Rattle.tsn_table.proofs.Copied.{among}
use Rattle.tsn_table.proofs.copy_of.Given as goal

-- the rows so far are copied, and there is room for all others
abbrev pub invariant-loop-id : goal.invariant-loop-id
invariant-loop-id g l = ((q : ℕ) → hash.get nat_eq l.copy q ≡ among (map deref_pair l.yielded) q (hash.get nat_eq l.rows q))
    × (length l.rows.entries ≤ hash.spare l.copy + length l.yielded)
