use Rattle.std.proofs.Common.{refl, ◌∙◌, ap, subst, sym}
use Rattle.tsn_commands.specs.declared.command.Ask.{Ask}
use Rattle.tsn_bridge.specs.Histories.{Answers}
use Rattle.tsn_replay.specs.Forms.{FormOf}
use Rattle.tsn_replay.specs.Recorder.{Recording, Records}
use Rattle.tsn_replay.specs.Recording.{kept_of}
use Rattle.tsn_replay.proofs.Forms.{kept_records, passing_records}
use Rattle.tsn_replay.proofs.recorder.RecorderMachine.step.Goals as goal

pub returns-in-Passing : goal.returns-in-Passing
returns-in-Passing g c =
    let ask = c.args.ask in
    let s = c.self.inside.bridge in
    let reply = c.step.result in
    let next = c.step.new.self in
    let text = c.self.inside.text.items in
    let form = subst (FormOf s ask) c.in-Passing.is c.form_of.ensures in
    let step : Answers s ask reply next = subst (λ (a : Ask). Answers s a reply next) form.0 c.step.ensures in
    let new : Recording = record { bridge = next; text = text } in
    subst (λ (old : Recording). Records g.S.Spell.line g.S.Spell.MOST old ask reply new) c.self.view_is
    (passing_records g.S.Spell.line g.S.Spell.MOST ask reply c.recall_ranges.ensures (record { bridge = s; text = text }) new form.1 step
    refl)

pub returns-in-Kept : goal.returns-in-Kept
returns-in-Kept g c =
    let ask = c.args.ask in
    let form = subst (FormOf c.self.inside.bridge ask) c.in-Kept.is c.form_of.ensures in
    let is = ap (λ (r : Recording). kept_of r.bridge ask) (sym c.self.view_is) ∙ form in
    kept_records g.S.Spell.line g.S.Spell.MOST ask c.keep.result c.recall_ranges.ensures c.in-Kept.ask c.args.self.now c.keep.new.self is
    c.keep.ensures
