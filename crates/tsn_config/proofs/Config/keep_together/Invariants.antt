use Rattle.std.proofs.Common.{◌≡◌, drop}
use Rattle.std.specs.List.{list_all}
use Rattle.tsn_config.specs.Keeping.{keeps_part}
use Rattle.tsn_config.specs.Ways.{turned}
use Rattle.tsn_config.proofs.Config.keep_together.Given as goal

-- the parts that are left decide
abbrev pub invariant-loop-part : goal.invariant-loop-part
invariant-loop-part l =
    list_all (λ p. keeps_part l.self.limits l.self.map (turned l.way l.parts) p) (turned l.way (drop l.part-index l.parts))
    ≡ list_all (λ p. keeps_part l.self.limits l.self.map (turned l.way l.parts) p) (turned l.way l.parts)
