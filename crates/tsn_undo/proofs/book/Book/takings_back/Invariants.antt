use Rattle.std.proofs.Common.{◌≡◌, ◌≤◌, ◌++◌, drop, length, map}
use Rattle.std.specs.Vec.{vec_len, vec_capacity}
use Rattle.tsn_entries.specs.Finding.{own_standing}
use Rattle.tsn_undo.specs.UndoAll.{taking_back}
use Rattle.tsn_undo.proofs.book.Book.takings_back.Given as goal

-- what takes back the entries so far, before that of the others, is that of all, in room for it
abbrev pub invariant-loop-number : goal.invariant-loop-number
invariant-loop-number l =
    (l.backs.items ++ map taking_back (drop l.number-index (own_standing l.self.ledger.entries l.session)) ≡ map taking_back
    (own_standing l.self.ledger.entries l.session))
    × ((vec_len l.backs ≡ l.number-index) × (length l.number-items ≤ vec_capacity l.backs))
