use Rattle.std.proofs.Common.{◌≡◌, length, map}
use Rattle.tsn_server.specs.Serving.{ports_to}
use Rattle.tsn_server.proofs.serving.probes_of.Given as goal

abbrev pub invariant-loop-before : goal.invariant-loop-before
invariant-loop-before l = (map (λ p. p.0) l.probes.items ≡ ports_to l.before) × (length l.probes.items ≡ l.before)
