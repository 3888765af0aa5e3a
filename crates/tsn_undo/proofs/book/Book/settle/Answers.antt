use Rattle.std.proofs.Common.{◌+◌, sym, ◌∙◌, ap, subst, length}
use Rattle.tsn_entries.specs.declared.entries.What.TheVariants.{Settled}
use Rattle.tsn_entries.specs.Entries.{with_entry}
use Rattle.tsn_undo.specs.Ledger.{Ledger, enter}
use Rattle.tsn_undo.specs.Soundness.{IsSound}
use Rattle.tsn_undo.proofs.Adding.{sound_settled}
use Rattle.tsn_undo.proofs.Settled.{makes_settle}
use Rattle.tsn_undo.proofs.book.Book.settle.Goals as goal

pub append-requires-clause-sound : goal.append-requires-clause-sound
append-requires-clause-sound c =
    let b = c.args.self.now.ledger in
    subst (λ (l : Ledger). IsSound l.limits l.opening (with_entry l.entries c.args.session (Settled c.args.upto)))
    (sym c.reserve_parts.ensures.ledger)
    (sound_settled b.limits b.opening b.entries c.args.session c.args.upto c.journal.ensures.sound)

pub returns-clause-ok : goal.returns-clause-ok
returns-clause-ok c =
    makes_settle c.args.self.now.ledger c.args.session c.args.upto c.journal.ensures.sound (sym c.in_default.ensures) c.append.result
    c.append.new.self.ledger
    (c.append.ensures.number ∙ ap (λ (l : Ledger). length l.entries + 1) c.reserve_parts.ensures.ledger)
    (c.append.ensures.after ∙ ap (λ (l : Ledger). enter l c.args.session (Settled c.args.upto)) c.reserve_parts.ensures.ledger)
