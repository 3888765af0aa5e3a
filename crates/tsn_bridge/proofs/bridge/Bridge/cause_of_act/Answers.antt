use Rattle.std.proofs.Common.{◌∙◌, ap, sym}
use Rattle.tsn_bridge.specs.Pair.{PairState}
use Rattle.tsn_bridge.proofs.KeySteps.{act_cause, least_act}
use Rattle.tsn_bridge.proofs.Stepping.{seen}
use Rattle.tsn_bridge.proofs.bridge.Bridge.cause_of_act.Goals as goal

pub returns-in-Some : goal.returns-in-Some
returns-in-Some c = sym (act_cause c.args.self.now c.args.session c.args.key.now c.in-Some.why c.args.act 0 (sym c.in-Some.ensures))

pub returns : goal.returns
returns c =
    let i = c.self.inside in
    let p = c.deref.result.now in
    let view = ap (λ (q : PairState). seen q i.sessions) c.deref.ensures ∙ c.self.view_is in
    c.cause_of_act.ensures ∙ sym (least_act p p i.sessions c.args.session c.args.act c.args.key.now 0 c.args.self.now view
    (sym c.in_default.ensures))
