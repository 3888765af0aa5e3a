use Rattle.std.proofs.Common.{◌∙◌, ◌≡◌, true, ap, sym}
use Rattle.tsn_bridge.specs.Rule.{is_given}
use Rattle.tsn_bridge.specs.Pair.{PairState}
use Rattle.tsn_bridge.proofs.Stepping.{edit_refused, edit_step, seen}
use Rattle.tsn_bridge.proofs.bridge.Bridge.edit.Goals as goal
use Rattle.tsn_bridge.proofs.bridge.Bridge.edit.Goals.{in-Ok, in-Err}

pub returns : goal.returns
returns c =
    let i = c.self.inside in
    let view = ap (λ (p : PairState). seen p i.sessions) c.deref_mut.ensures.value ∙ c.self.view_is in
    let known : is_given c.args.self.now c.args.session ≡ true = sym c.if-not-is_given.ensures in
    elim c.match-edit.branch [
      | in-Ok w ↦ rw w.result-is (edit_step c.deref_mut.result.now c.edit.new.self i.sessions c.args.self.now c.args.session c.args.batch
          view known w.in-Ok.entry w.in-Ok.ensures.made w.in-Ok.ensures.follows)
      | in-Err w ↦ rw w.result-is (edit_refused c.deref_mut.result.now c.edit.new.self i.sessions c.args.self.now c.args.session
          c.args.batch view known w.in-Err.why w.in-Err.ensures.refused w.in-Err.ensures.unchanged)
    ]
