use Rattle.tsn_serve.specs.Probes.{IsProbed}
use Rattle.tsn_serve.proofs.Matching.{matched, both_ok}
use Rattle.tsn_serve.proofs.serving.fn.serve_beside.join+arg3.Goals as goal

pub returns : goal.returns
returns g c = both_ok c.probe_seats.result _ _ _
    (λ v len each. matched (λ probe pair. IsProbed c.captures.desk.now probe pair) c.captures.probes.items v.items len each)
    c.probe_seats.ensures.len c.probe_seats.ensures.each
