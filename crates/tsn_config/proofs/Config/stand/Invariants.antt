use Rattle.std.proofs.Common.{drop}
use Rattle.tsn_edit.specs.Changes.{Stands}
use Rattle.tsn_config.specs.Ways.{AreInRange, turned}
use Rattle.tsn_config.proofs.Config.stand.Given as goal

-- all stand if those that are left do, and so with the ranges
abbrev pub invariant-loop-part : goal.invariant-loop-part
invariant-loop-part l = record {
  stand : Stands l.self.map (turned l.way (drop l.part-index l.parts)) → Stands l.self.map (turned l.way l.parts);
  ranges : AreInRange (turned l.way (drop l.part-index l.parts)) → AreInRange (turned l.way l.parts);
}
