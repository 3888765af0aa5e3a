use Rattle.std.proofs.Common.{◌≡◌, ◌+◌, ◌∙◌, sym, ap, subst, length}
use Rattle.std.specs.Prelude.{is_some}
use Rattle.tsn_edit.specs.Changes.{Fits}
use Rattle.tsn_edit.specs.Parts.{Change, inverse}
use Rattle.tsn_entries.specs.declared.entries.What.{What}
use Rattle.tsn_entries.specs.declared.entries.What.TheVariants.{Undone}
use Rattle.tsn_entries.specs.Entries.{with_entry}
use Rattle.tsn_undo.specs.declared.book.TakingBack.{TakingBack}
use Rattle.tsn_undo.specs.Ledger.{Ledger, enter, present}
use Rattle.tsn_undo.specs.Soundness.{IsSound}
use Rattle.tsn_undo.proofs.Free.{free_change}
use Rattle.tsn_undo.proofs.Making.{makes_undo, undo_step_now}
use Rattle.tsn_undo.proofs.book.Book.try_undo.Goals.{In_ok-back}
use Rattle.tsn_undo.proofs.book.Book.try_undo.Goals as goal

pub taking_back-requires : goal.taking_back-requires
taking_back-requires c =
    ap is_some (free_change c.args.self.now.ledger c.args.session c.args.of c.journal.ensures.sound.numbered c.requires)

-- the change that takes the newest back, entered and applied
back_is : (c : In_ok-back)
    → c.in_ok-back.back
    ≡ record { of = c.args.of; entered = inverse c.requires.newest.change; applied = inverse c.requires.newest.change }
back_is c =
    c.in_ok-back.ensures c.requires.newest.change
    (free_change c.args.self.now.ledger c.args.session c.args.of c.journal.ensures.sound.numbered c.requires)

-- the entry that is made is the one that takes the newest back
what_is : (c : In_ok-back)
    → ◌≡◌ {A = What} (Undone c.in_ok-back.back.of c.in_ok-back.back.applied)
    (Undone c.requires.newest.number (inverse c.requires.newest.change))
what_is c = λ i. Undone ((ap (λ (k : TakingBack). k.of) (back_is c) ∙ c.requires.of_is) i) (back_is c i).applied

pub enter_undone-requires-clause-same : goal.enter_undone-requires-clause-same
enter_undone-requires-clause-same c =
    let is = back_is (goal.at.enter_undone-requires-clause-same c).In_ok-back in
    ap (λ (k : TakingBack). k.entered) is ∙ sym (ap (λ (k : TakingBack). k.applied) is)

pub enter_undone-requires-clause-fits : goal.enter_undone-requires-clause-fits
enter_undone-requires-clause-fits c =
    let at = (goal.at.enter_undone-requires-clause-fits c).In_ok-back in
    subst (λ (t : Ledger × Change). Fits t.0.limits (present t.0) t.1)
    (λ i. (sym c.reserve_parts.ensures.ledger i, ap (λ (k : TakingBack). k.applied) (sym (back_is at)) i))
    (undo_step_now c.args.self.now.ledger c.args.session c.args.of c.journal.ensures.sound c.requires).fits

pub enter_undone-requires-clause-sound : goal.enter_undone-requires-clause-sound
enter_undone-requires-clause-sound c =
    let at = (goal.at.enter_undone-requires-clause-sound c).In_ok-back in
    subst (λ (t : Ledger × What). IsSound t.0.limits t.0.opening (with_entry t.0.entries c.args.session t.1))
    (λ i. (sym c.reserve_parts.ensures.ledger i, sym (what_is at) i))
    (undo_step_now c.args.self.now.ledger c.args.session c.args.of c.journal.ensures.sound c.requires).sound

pub returns-clause-ok : goal.returns-clause-ok
returns-clause-ok c =
    let at = (goal.at.returns-clause-ok c).In_ok-back in
    makes_undo c.args.self.now.ledger c.args.session c.args.of c.journal.ensures.sound c.requires c.enter_undone.result
    c.enter_undone.new.self.ledger
    (c.enter_undone.ensures.number ∙ ap (λ (l : Ledger). length l.entries + 1) c.reserve_parts.ensures.ledger)
    (c.enter_undone.ensures.after ∙ (λ i. enter (c.reserve_parts.ensures.ledger i) c.args.session (what_is at i)))
