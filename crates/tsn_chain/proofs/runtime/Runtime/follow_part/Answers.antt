use Rattle.std.proofs.Common.{sym, subst, ap, ◌∙◌, ◌≡◌}
use Rattle.std.specs.FinMap.{FinMap}
use Rattle.std.specs.Ordering.{nat_cmp}
use Rattle.tsn_types.specs.declared.records.PortEntry.{PortEntry}
use Rattle.tsn_types.specs.declared.records.GateEntry.{GateEntry}
use Rattle.tsn_schedule.specs.Kept.{Kept, fresh}
use Rattle.tsn_chain.specs.Instances.{AreBy}
use Rattle.tsn_chain.specs.Following.{row_after}
use Rattle.tsn_chain.proofs.Timely.{by_row}
use Rattle.tsn_chain.proofs.runtime.Runtime.follow_part.Goals as goal

pub invariant_of-self : goal.invariant_of-self
invariant_of-self c =
    let i = c.self.inside in
    let e = c.args.part.now in
    let map : c.follow_row.new.table.map ≡ row_after fresh e.before e.after i.ports.map c.get.result =
    c.follow_row.ensures.map ∙ ap (λ (k : Kept PortEntry). row_after k e.before e.after i.ports.map c.get.result) c.new.ensures.fresh in (
      subst (λ (t : FinMap nat_cmp (Kept PortEntry)). AreBy i.time t) (sym map)
          (by_row i.time c.get.result e.before e.after i.ports.map c.self.invariant.0),
      c.self.invariant.1,
    )

pub invariant_of-self-in-Gate : goal.invariant_of-self-in-Gate
invariant_of-self-in-Gate c =
    let i = c.self.inside in
    let e = c.args.part.now in
    let map : c.follow_row-in-Gate.new.table.map ≡ row_after fresh e.before e.after i.gates.map c.get-in-Gate.result =
    c.follow_row-in-Gate.ensures.map ∙ ap (λ (k : Kept GateEntry). row_after k e.before e.after i.gates.map c.get-in-Gate.result)
    c.new-in-Gate.ensures.fresh in (
      c.self.invariant.0,
      subst (λ (t : FinMap nat_cmp (Kept GateEntry)). AreBy i.time t) (sym map)
          (by_row i.time c.get-in-Gate.result e.before e.after i.gates.map c.self.invariant.1),
    )
