use Rattle.std.proofs.Common.{◌≡◌, refl, ◌∙◌, ap, subst}
use Rattle.std.specs.Prelude.{IfSome}
use Rattle.tsn_edit.specs.Changes.{Fits}
use Rattle.tsn_undo.specs.Ledger.{IsBook, LedgerWithRoom, enter, present}
use Rattle.tsn_undo.proofs.Rewinding.{changed, quiet_book, quiet_ledger, seen}
use Rattle.tsn_undo.proofs.book.Book.append.Goals.{After-push}
use Rattle.tsn_undo.proofs.book.Book.append.Goals as goal

changed_here : (c : After-push)
    → IsBook c.apply.new.self.limits c.apply.new.self.map c.push.new.self.entries
    × (seen c.apply.new.self.limits c.apply.new.self.map c.push.new.self.entries ≡ enter c.args.self.now.ledger c.args.session c.args.what)
changed_here c =
    let i = c.self.inside in
    changed i.config.limits i.config.map i.journal.entries c.args.self.now.ledger
    (ap (λ (a : LedgerWithRoom). a.ledger) c.self.view_is) c.self.invariant c.args.session c.args.what c.requires.sound
    c.apply.new.self.limits c.apply.new.self.map c.push.new.self.entries c.apply.ensures.limits c.push.ensures.entries
    c.in-Some.change (c.requires.applies ∙ c.in-Some.is)
    (subst (λ o. IfSome o (λ e. Fits c.args.self.now.ledger.limits (present c.args.self.now.ledger) e)) c.in-Some.is c.requires.fits)
    c.apply.ensures.map

pub invariant_of-self : goal.invariant_of-self
invariant_of-self c = (changed_here (goal.at.invariant_of-self c).After-push).0

pub invariant_of-self-in-None : goal.invariant_of-self-in-None
invariant_of-self-in-None c =
    let i = c.self.inside in
    quiet_book i.config.limits i.config.map i.journal.entries c.args.self.now.ledger (ap (λ (a : LedgerWithRoom). a.ledger) c.self.view_is)
    c.self.invariant c.args.session c.args.what c.requires.sound
    i.config.limits i.config.map c.push-in-None.new.self.entries refl c.push-in-None.ensures.entries
    (c.requires.applies ∙ c.in-None.is) refl

pub returns-in-Some-clause-after : goal.returns-in-Some-clause-after
returns-in-Some-clause-after c = (changed_here (goal.at.returns-in-Some-clause-after c).After-push).1

pub returns-in-None-clause-after : goal.returns-in-None-clause-after
returns-in-None-clause-after c =
    let i = c.self.inside in
    quiet_ledger i.config.limits i.config.map i.journal.entries c.args.self.now.ledger
    (ap (λ (a : LedgerWithRoom). a.ledger) c.self.view_is) c.self.invariant c.args.session c.args.what c.requires.sound
    i.config.limits i.config.map c.push-in-None.new.self.entries refl c.push-in-None.ensures.entries
    (c.requires.applies ∙ c.in-None.is) refl
