use Rattle.std.proofs.Common.{subst}
use Rattle.tsn_config.specs.Views.{ConfigView}
use Rattle.tsn_edit.specs.Configuration.{IsWellKept}
use Rattle.tsn_bridge.proofs.Tied.{tied_begun}
use Rattle.tsn_bridge.proofs.pair.Pair.begin.Goals as goal

pub invariant_of-result : goal.invariant_of-result
invariant_of-result c =
    let config = c.args.config in
    let kept : IsWellKept config.limits config.map = subst (λ (v : ConfigView). IsWellKept v.limits v.map) c.config.view_is
    c.config.invariant in
    tied_begun config.limits config.map c.new.result.ledger c.in_ok-runtime.runtime.runners c.in_ok-runtime.runtime.frames kept
    c.new.ensures.ledger c.in_ok-runtime.ensures.runners c.in_ok-runtime.ensures.frames
