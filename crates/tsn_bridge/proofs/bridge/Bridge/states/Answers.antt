use Rattle.std.proofs.Common.{[], ◌∙◌, ap, sym}
use Rattle.tsn_types.specs.Limits.{first_cause}
use Rattle.tsn_bridge.specs.Acts.{list_causes}
use Rattle.tsn_bridge.specs.State.{State}
use Rattle.tsn_bridge.specs.Pair.{PairState}
use Rattle.tsn_bridge.proofs.Causes.{there_list}
use Rattle.tsn_bridge.proofs.KeySteps.{states_past, states_step, states_stopped}
use Rattle.tsn_bridge.proofs.Stepping.{seen}
use Rattle.tsn_bridge.proofs.bridge.Bridge.states.Goals as goal

pub returns-in-Some : goal.returns-in-Some
returns-in-Some c = states_stopped c.args.self.now c.args.session c.args.key.now c.in-Some.why c.args.at (sym c.in-Some.ensures)

pub states_at-requires : goal.states_at-requires
states_at-requires c =
    let i = c.self.inside in
    let view = ap (λ (p : PairState). seen p i.sessions) c.deref.ensures ∙ c.self.view_is in
    let key = c.args.key.now in
    let there = there_list (seen c.deref.result.now i.sessions) c.args.session key
    (ap (λ (s : State). first_cause (list_causes s c.args.session key [])) view ∙ sym c.in_default.ensures) in
    record { list = there.0; there = there.1 }

pub returns-in-Ok : goal.returns-in-Ok
returns-in-Ok c =
    let i = c.self.inside in
    let view = ap (λ (p : PairState). seen p i.sessions) c.deref.ensures ∙ c.self.view_is in
    states_step c.deref.result.now i.sessions c.args.session c.args.key.now c.args.self.now view c.args.at c.in-Ok.state
    (sym c.in_default.ensures) c.in-Ok.ensures.0 c.in-Ok.ensures.1

pub returns-in-Err : goal.returns-in-Err
returns-in-Err c =
    let i = c.self.inside in
    let view = ap (λ (p : PairState). seen p i.sessions) c.deref.ensures ∙ c.self.view_is in
    states_past c.deref.result.now i.sessions c.args.session c.args.key.now c.args.self.now view c.args.at (sym c.in_default.ensures)
    c.in-Err.ensures
