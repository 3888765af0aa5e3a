use Rattle.std.proofs.Common.{◌≡◌, length, map}
use Rattle.std.specs.Prelude.{◌==◌}
use Rattle.std.specs.Vec.{vec_len}
use Rattle.tsn_entries.specs.Entries.{standing}
use Rattle.tsn_entries.specs.Finding.{own_standing}
use Rattle.tsn_undo.specs.Commuting.{IsClosed}
use Rattle.tsn_undo.specs.Ledger.{Holds}
use Rattle.tsn_undo.specs.UndoAll.{all_undone, room_left, taking_back}
use Rattle.tsn_undo.proofs.book.Book.enter_all_undone.Given as goal

-- what is left takes back the session's standing entries, none of which is in conflict with a later one of another session, in
-- room for them; taking them all back leaves what it was to leave at first
abbrev pub invariant-each : goal.invariant-each
invariant-each l = record {
  left : l.backs.items ≡ map taking_back (own_standing l.self.ledger.entries l.session);
  closed : IsClosed (λ x. x.session == l.session) (standing l.self.ledger.entries);
  all : all_undone l.self.ledger l.session ≡ all_undone l.fn.self.ledger l.session;
  room : Holds l.self.room (length l.backs.items) (room_left l.backs.items);
}

abbrev pub decreases-each : goal.decreases-each
decreases-each l = vec_len l.backs
