use Rattle.std.proofs.Common.{Ok}
use Rattle.tsn_serve.proofs.Matching.{both_ok}
use Rattle.tsn_serve.proofs.probing.probe_seats.Goals as goal

pub returns-clause-each : goal.returns-clause-each
returns-clause-each g c = both_ok c.all_probed.result _ _ _
    (λ v len each k p q at_p at_q. c.in-Ok.ensures.each k p (Ok q) at_p (each k q at_q)) c.all_probed.ensures.len c.all_probed.ensures.each
