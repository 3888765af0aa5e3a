use Rattle.std.proofs.Common.{◌∙◌, ap, sym}
use Rattle.tsn_bridge.specs.Pair.{PairState}
use Rattle.tsn_bridge.proofs.Framing.{framed_step}
use Rattle.tsn_bridge.proofs.Stepping.{seen}
use Rattle.tsn_bridge.proofs.bridge.Bridge.frame.Goals as goal

pub returns : goal.returns
returns c =
    let i = c.self.inside in
    let view = ap (λ (p : PairState). seen p i.sessions) c.deref_mut.ensures.value ∙ c.self.view_is in
    framed_step c.deref_mut.result.now c.frame.new.self i.sessions c.args.self.now c.args.session c.args.frame c.args.now c.frame.result
    view (sym c.if-not-is_given.ensures) c.frame.ensures.ledger c.frame.ensures.time c.frame.ensures.framed
