use Rattle.std.proofs.Common.{◌≡◌, ap, sym, ◌∙◌, subst}
use Rattle.std.proofs.lemmas.Result.{err_from_is_err_and}
use Rattle.std.specs.Prelude.{option_map}
use Rattle.tsn_serve.specs.Talk.{Goes, Told}
use Rattle.tsn_serve.proofs.Going.{tires_goes}
use Rattle.tsn_clerk.specs.Noting.{IsRecorded}
use Rattle.tsn_clerk.specs.Talking.{IsDue, Parts}
use Rattle.tsn_clerk.proofs.Going.{told_goes}
use Rattle.tsn_clerk.proofs.Telling.{replied_as}
use Rattle.tsn_clerk.proofs.talk.Talk.exchange.Goals as goal

pub returns-in-Err-clause-err : goal.returns-in-Err-clause-err
returns-in-Err-clause-err g c = (
  subst (λ (p : Parts _). Goes p.caller c.reply.new.self) c.self.view_is (tires_goes _ c.in-Err.ensures.tired.0 _ c.in-Err.ensures.tired.2),
  ap (λ (p : Parts _). p.writer) c.self.view_is,
)

pub returns-clause-ok : goal.returns-clause-ok
returns-clause-ok g c =
    let line = option_map (λ s. s.now) c.args.line in
    let same = c.in_ok-take_note.ensures.ok.1 in
    replied_as c.args.self.now c.take_note.new.self line c.in-Ok.replied.0 c.in-Ok.replied.1
    (subst (λ (p : Parts _). Told IsRecorded c.args.self.now.caller line c.in-Ok.replied.0 c.in-Ok.replied.1 p.caller) (sym same)
    (subst (λ (p : Parts _). Told IsRecorded p.caller line c.in-Ok.replied.0 c.in-Ok.replied.1 c.reply.new.self) c.self.view_is
    c.in-Ok.ensures.ok))
    (subst (λ (p : Parts _). IsDue p.due c.in-Ok.replied.1 c.take_note.new.self.due) c.self.view_is c.in_ok-take_note.ensures.ok.0)
    (ap (λ (p : Parts _). p.replies) same ∙ ap (λ (p : Parts _). p.replies) c.self.view_is)
    (ap (λ (p : Parts _). p.writer) same ∙ ap (λ (p : Parts _). p.writer) c.self.view_is)

pub returns-in_err-take_note-clause-err : goal.returns-in_err-take_note-clause-err
returns-in_err-take_note-clause-err g c =
    let gone = err_from_is_err_and c.from_residual.result c.from_residual.ensures.1 in
    let same = c.in_err-take_note.ensures.err in
    rw gone.1 (
      subst (λ (p : Parts _). Goes c.args.self.now.caller p.caller) (sym same)
          (subst (λ (p : Parts _). Goes p.caller c.reply.new.self) c.self.view_is (told_goes IsRecorded _ _ _ _ _ c.in-Ok.ensures.ok)),
      ap (λ (p : Parts _). p.writer) same ∙ ap (λ (p : Parts _). p.writer) c.self.view_is,
    )
