use Rattle.std.proofs.Common.{◌≡◌, drop}
use Rattle.tsn_config.specs.Opening.{limits_cause}
use Rattle.tsn_config.proofs.opening.refuse_items.Given as goal

-- what is left has the cause of the whole list
abbrev pub invariant-loop-item : goal.invariant-loop-item
invariant-loop-item l = limits_cause l.limits (drop l.item-index l.items) ≡ limits_cause l.limits l.items
