use Rattle.tsn_port.specs.Workers.{GoesOn}
use Rattle.tsn_serve.proofs.Matching.{matched, both_ok}
use Rattle.tsn_serve.proofs.serving.fn.serve_beside.join+arg2.Goals as goal

pub returns : goal.returns
returns g c = both_ok c.serve_seats.result _ _ _
    (λ v len each. matched (λ old new. GoesOn c.captures.desk.now old new) c.captures.seats.items v.items len each)
    c.serve_seats.ensures.len c.serve_seats.ensures.each
