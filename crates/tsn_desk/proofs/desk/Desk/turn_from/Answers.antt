use Rattle.std.proofs.Common.{rules, length, ap, sym, ◌∙◌, ◌∷◌, Some, arith}
use Rattle.atomic_table.specs.Table.{rest}
use Rattle.tsn_desk.proofs.Keeps.{sees_tickets, draws}
use Rattle.tsn_desk.proofs.desk.Desk.turn_from.Goals as goal

pub load-requires : goal.load-requires
load-requires g c = (search rules, search rules, sees_tickets _ _ _ _ _ _)

pub fetch_add-place-requires : goal.fetch_add-place-requires
fetch_add-place-requires g c =
    let e = c.load.ensures.2.0 in
    let t = ap (λ m. m.0.tickets) e in
    let l = ap (λ m. length m.0.calls) e in
    let o = c.into_inner-seat.ensures.rests.2 in
    (search rules, search rules, draws _ _ _ _ _ _ (ap (λ m. m.0.stage) e ∙ c.into_inner-seat.ensures.rests.1) (omega arith) (omega arith))

pub exchange-requires : goal.exchange-requires
exchange-requires g c =
    let took = c.wait.ensures.took in
    let p = ap (λ m. m.1) took.2 in
    (search rules, (Some took.0, p ∙ ap (λ r. (0, Some took.0) ∷ r) (sym (ap rest p))))
