use Rattle.std.proofs.Common.{rules}
use Rattle.tsn_desk.proofs.Parts.{notes}
use Rattle.tsn_desk.proofs.desk.Desk.tell.Goals as goal

pub split_seat-note-requires : goal.split_seat-note-requires
split_seat-note-requires g c = let a = c.requires.seats.0 in (a.own.0, search rules, notes _ _ _ _ _ a.idle)
