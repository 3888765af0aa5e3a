use Rattle.std.proofs.Common.{◌≡◌, drop}
use Rattle.std.specs.FinMap.{get}
use Rattle.tsn_edit.specs.Changes.{put_all}
use Rattle.tsn_config.specs.Ways.{turned}
use Rattle.tsn_config.proofs.Config.has_after.Given as goal

-- the parts that are left give the key its value
abbrev pub invariant-loop-part : goal.invariant-loop-part
invariant-loop-part l =
    get (put_all l.self.map (turned l.way (drop l.part-index l.parts))) l.key ≡ get (put_all l.self.map (turned l.way l.parts)) l.key
