use Rattle.std.proofs.Common.{rules}
use Rattle.tsn_desk.proofs.Keeps.{sees_front}
use Rattle.tsn_desk.proofs.Parts.{joins}
use Rattle.tsn_desk.proofs.desk.Desk.gather.Goals as goal

pub join_seat-requires : goal.join_seat-requires
join_seat-requires g c =
    let a = c.requires.seats.0 in let b = c.requires.seats.1 in (a.own.0, b.own.0, b.empty, search rules, joins _ _ _ _ _ _ _ a.idle b.idle)

pub load-requires : goal.load-requires
load-requires g c = (search rules, search rules, sees_front _ _ _ _ _ _)
