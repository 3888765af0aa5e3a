use Rattle.std.proofs.Common.{[], ◌∙◌, ap, sym}
use Rattle.tsn_types.specs.Limits.{first_cause}
use Rattle.tsn_bridge.specs.Acts.{list_causes}
use Rattle.tsn_bridge.specs.State.{State}
use Rattle.tsn_bridge.specs.declared.pair.Done.{Done}
use Rattle.tsn_bridge.specs.Pair.{PairState}
use Rattle.tsn_bridge.proofs.Causes.{there_list}
use Rattle.tsn_bridge.proofs.KeySteps.{act_done, act_refused, act_stopped}
use Rattle.tsn_bridge.proofs.Stepping.{seen}
use Rattle.tsn_bridge.proofs.bridge.Bridge.act.Goals as goal
use Rattle.tsn_bridge.proofs.bridge.Bridge.act.Goals.{in-Ok, in-Err}

pub returns-in-Some : goal.returns-in-Some
returns-in-Some c = act_stopped c.args.self.now c.args.session c.args.key.now c.in-Some.why c.args.act c.args.now (sym c.in-Some.ensures)

pub act-requires : goal.act-requires
act-requires c =
    let i = c.self.inside in
    let view = ap (λ (p : PairState). seen p i.sessions) c.deref_mut.ensures.value ∙ c.self.view_is in
    let key = c.args.key.now in
    let there = there_list (seen c.deref_mut.result.now i.sessions) c.args.session key
    (ap (λ (s : State). first_cause (list_causes s c.args.session key [])) view ∙ sym c.in_default.ensures) in
    record { list = there.0; there = there.1 }

pub returns : goal.returns
returns c =
    let i = c.self.inside in
    let view = ap (λ (p : PairState). seen p i.sessions) c.deref_mut.ensures.value ∙ c.self.view_is in
    elim c.match-act.branch [
      | in-Ok w ↦ rw w.result-is (act_done c.deref_mut.result.now c.act.new.self i.sessions c.args.session c.args.act c.args.key.now
          c.args.now c.args.self.now view (sym c.in_default.ensures) w.in-Ok.done.change w.in-Ok.done.entry w.in-Ok.done.now
          (ap (λ (d : Done). d.change) w.in-Ok.ensures.done) (ap (λ (d : Done). d.entry) w.in-Ok.ensures.done)
          (ap (λ (d : Done). d.now) w.in-Ok.ensures.done) w.in-Ok.ensures.free w.in-Ok.ensures.after)
      | in-Err w ↦ rw w.result-is (act_refused c.deref_mut.result.now c.act.new.self i.sessions c.args.session c.args.act c.args.key.now
          c.args.now c.args.self.now view (sym c.in_default.ensures) w.in-Err.why w.in-Err.ensures.refused w.in-Err.ensures.unchanged)
    ]
