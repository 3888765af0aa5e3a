use Rattle.std.proofs.Common.{◌≡◌, ℕ, ◌+◌, ◌∙◌, Some, sym, ap, subst, length}
use Rattle.std.specs.Prelude.{is_some}
use Rattle.tsn_edit.specs.Changes.{Fits}
use Rattle.tsn_edit.specs.Parts.{Change, inverse}
use Rattle.tsn_entries.specs.declared.entries.What.{What}
use Rattle.tsn_entries.specs.declared.entries.What.TheVariants.{Redone}
use Rattle.tsn_entries.specs.Entries.{with_entry}
use Rattle.tsn_undo.specs.declared.book.TakingBack.{TakingBack}
use Rattle.tsn_undo.specs.Ledger.{Ledger, enter, present}
use Rattle.tsn_undo.specs.Soundness.{IsSound}
use Rattle.tsn_undo.proofs.Redone.{makes_redo, redo_change, redo_sound}
use Rattle.tsn_undo.proofs.book.Book.try_redo.Goals as goal

pub taking_back-requires : goal.taking_back-requires
taking_back-requires c =
    ap is_some (redo_change c.args.self.now.ledger c.args.session c.args.of c.journal.ensures.sound c.requires)

pub append-requires-clause-applies : goal.append-requires-clause-applies
append-requires-clause-applies c =
    let b = c.args.self.now.ledger in
    let is = c.in_ok-of.ensures c.requires.undone.change (redo_change b c.args.session c.args.of c.journal.ensures.sound c.requires) in
    ap (λ (k : TakingBack). Some k.entered) is ∙ sym (ap (λ (k : TakingBack). Some k.applied) is)

pub append-requires-clause-fits : goal.append-requires-clause-fits
append-requires-clause-fits c =
    let b = c.args.self.now.ledger in
    let is = c.in_ok-of.ensures c.requires.undone.change (redo_change b c.args.session c.args.of c.journal.ensures.sound c.requires) in
    subst (λ (t : Ledger × Change). Fits t.0.limits (present t.0) t.1)
    (λ i. (sym c.reserve_parts.ensures.ledger i, ap (λ (k : TakingBack). k.applied) (sym is) i)) c.requires.fits

-- the entry that is made is the one that takes the Undone entry back
entered : (k : TakingBack) (of n : ℕ) (e : Change) → k ≡ record { of = of; entered = e; applied = e } → of ≡ n
    → ◌≡◌ {A = What} (Redone k.of k.entered) (Redone n e)
entered k of n e is same = λ i. Redone ((ap (λ (k : TakingBack). k.of) is ∙ same) i) (is i).entered

pub append-requires-clause-sound : goal.append-requires-clause-sound
append-requires-clause-sound c =
    let b = c.args.self.now.ledger in
    let u = c.requires.undone in
    let is = c.in_ok-of.ensures u.change (redo_change b c.args.session c.args.of c.journal.ensures.sound c.requires) in
    let what = entered c.in_ok-of.field-0 c.args.of u.number (inverse u.change) is c.requires.of_is in
    subst (λ (t : Ledger × What). IsSound t.0.limits t.0.opening (with_entry t.0.entries c.args.session t.1))
    (λ i. (sym c.reserve_parts.ensures.ledger i, sym what i)) (redo_sound b c.args.session c.args.of c.journal.ensures.sound c.requires)

pub returns-clause-ok : goal.returns-clause-ok
returns-clause-ok c =
    let b = c.args.self.now.ledger in
    let u = c.requires.undone in
    let is = c.in_ok-of.ensures u.change (redo_change b c.args.session c.args.of c.journal.ensures.sound c.requires) in
    let what = entered c.in_ok-of.field-0 c.args.of u.number (inverse u.change) is c.requires.of_is in
    makes_redo b c.args.session c.args.of c.journal.ensures.sound c.requires c.append.result c.append.new.self.ledger
    (c.append.ensures.number ∙ ap (λ (l : Ledger). length l.entries + 1) c.reserve_parts.ensures.ledger)
    (c.append.ensures.after ∙ (λ i. enter (c.reserve_parts.ensures.ledger i) c.args.session (what i)))
