use Rattle.std.proofs.Common.{◌≡◌, drop, map}
use Rattle.tsn_types.specs.Refusals.{least, lesser}
use Rattle.tsn_edit.proofs.Ordered.{own_cause}
use Rattle.tsn_config.proofs.Config.check.Given as goal

-- with the causes of the edits that are left, the least so far is the least of all
abbrev pub invariant-loop-edit : goal.invariant-loop-edit
invariant-loop-edit l =
    lesser l.least (least (map (λ e. own_cause l.self.limits l.self.map l.edits e) (drop l.edit-index l.edits)))
    ≡ least (map (λ e. own_cause l.self.limits l.self.map l.edits e) l.edits)
