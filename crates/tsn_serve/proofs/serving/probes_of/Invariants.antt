use Rattle.std.proofs.Common.{◌≡◌, map, take, length}
use Rattle.tsn_serve.specs.declared.probing.Probe.{Probe}
use Rattle.tsn_serve.proofs.serving.probes_of.Given as goal

abbrev pub invariant-seats : goal.invariant-seats
invariant-seats l =
    (map (λ (p : Probe). p.seat) l.all.items ≡ l.yielded)
    × (l.next ≡ length l.yielded)
    × (map (λ (p : Probe). (p.port, p.at)) l.all.items ≡ take l.next l.probes)
