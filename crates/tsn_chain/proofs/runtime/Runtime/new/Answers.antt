use Rattle.std.proofs.Common.{sym, ◌∙◌, subst}
use Rattle.std.specs.FinMap.{FinMap}
use Rattle.std.specs.Ordering.{nat_cmp}
use Rattle.tsn_types.specs.declared.records.PortEntry.{PortEntry}
use Rattle.tsn_types.specs.declared.records.GateEntry.{GateEntry}
use Rattle.tsn_schedule.specs.Kept.{Kept}
use Rattle.tsn_chain.specs.Instances.{AreBy}
use Rattle.tsn_chain.proofs.Timely.{by_empty}
use Rattle.tsn_chain.proofs.runtime.Runtime.new.Goals as goal

pub invariant_of-result : goal.invariant_of-result
invariant_of-result c = (
  subst (λ (t : FinMap nat_cmp (Kept PortEntry)). AreBy c.beginning.result t) (sym (c.reserve.ensures.map ∙ c.new-ports.ensures.map))
      (by_empty c.beginning.result),
  subst (λ (t : FinMap nat_cmp (Kept GateEntry)). AreBy c.beginning.result t) (sym c.new.ensures.map) (by_empty c.beginning.result),
)
