use Rattle.std.proofs.Common.{◌+◌, ◌∙◌, ap, length, subst}
use Rattle.tsn_edit.specs.Batches.{change_of}
use Rattle.tsn_edit.specs.Changes.{Fits}
use Rattle.tsn_entries.specs.declared.entries.What.TheVariants.{Made}
use Rattle.tsn_undo.specs.Ledger.{Ledger, enter, present}
use Rattle.tsn_undo.proofs.Free.{edit_admitted, is_memory}
use Rattle.tsn_undo.proofs.Making.{makes_edit}
use Rattle.tsn_undo.proofs.book.Book.try_edit.Goals as goal

pub returns-in-Err-clause-memory : goal.returns-in-Err-clause-memory
returns-in-Err-clause-memory c =
    is_memory _ c.in-Err.why (edit_admitted c.args.self.now.ledger c.args.batch c.requires).1 c.in-Err.ensures.refused

pub returns-clause-ok : goal.returns-clause-ok
returns-clause-ok c =
    let b = c.args.self.now.ledger in
    let same = c.reserve_parts.ensures.ledger in
    let fits = subst (λ (l : Ledger). Fits l.limits (present l) (change_of (present l) c.args.batch)) same c.in_ok-make.ensures.fits in
    makes_edit b c.args.session c.args.batch fits c.edits.ensures.batch c.requires c.in_ok-make.field-0 c.make.new.self.ledger
    (c.in_ok-make.ensures.number ∙ ap (λ (l : Ledger). length l.entries + 1) same)
    (c.in_ok-make.ensures.after ∙ ap (λ (l : Ledger). enter l c.args.session (Made (change_of (present l) c.args.batch))) same)
