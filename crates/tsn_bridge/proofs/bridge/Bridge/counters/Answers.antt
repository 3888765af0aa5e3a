use Rattle.std.proofs.Common.{◌∙◌, [], ap, sym}
use Rattle.tsn_types.specs.Limits.{first_cause}
use Rattle.tsn_bridge.specs.Acts.{key_causes}
use Rattle.tsn_bridge.specs.State.{State}
use Rattle.tsn_bridge.specs.Pair.{PairState}
use Rattle.tsn_bridge.proofs.Causes.{there_key}
use Rattle.tsn_bridge.proofs.KeySteps.{counters_step, counters_stopped}
use Rattle.tsn_bridge.proofs.Stepping.{seen}
use Rattle.tsn_bridge.proofs.bridge.Bridge.counters.Goals as goal

pub returns-in-Some : goal.returns-in-Some
returns-in-Some c = counters_stopped c.args.self.now c.args.session c.args.key.now c.in-Some.why (sym c.in-Some.ensures)

pub counters-requires : goal.counters-requires
counters-requires c =
    let i = c.self.inside in
    let view = ap (λ (p : PairState). seen p i.sessions) c.deref.ensures ∙ c.self.view_is in
    let key = c.args.key.now in
    there_key (seen c.deref.result.now i.sessions) c.args.session key
    (ap (λ (s : State). first_cause (key_causes s c.args.session key [])) view ∙ sym c.in_default.ensures)

pub returns : goal.returns
returns c =
    let i = c.self.inside in
    let view = ap (λ (p : PairState). seen p i.sessions) c.deref.ensures ∙ c.self.view_is in
    counters_step c.deref.result.now i.sessions c.args.session c.args.key.now c.args.self.now view c.counters.result
    (sym c.in_default.ensures) c.counters.ensures
