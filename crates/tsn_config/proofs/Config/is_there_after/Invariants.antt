use Rattle.std.proofs.Common.{◌≡◌, length}
use Rattle.std.specs.FinMap.{get}
use Rattle.tsn_edit.specs.Batches.{result}
use Rattle.tsn_config.proofs.Config.is_there_after.Given as goal

-- the edits that are left give the key its value
abbrev pub invariant-loop-first : goal.invariant-loop-first
invariant-loop-first l = get (result l.self.map l.rest) l.key ≡ get (result l.self.map l.edits) l.key

abbrev pub decreases-loop-first : goal.decreases-loop-first
decreases-loop-first l = length l.rest
