use Rattle.std.proofs.Common.{subst}
use Rattle.tsn_edit.specs.Configuration.{IsWellKept}
use Rattle.tsn_undo.specs.Ledger.{LedgerWithRoom, present}
use Rattle.tsn_undo.proofs.Rewinding.{present_kept}
use Rattle.tsn_undo.proofs.book.Book.config.Goals as goal

pub returns-clause-kept : goal.returns-clause-kept
returns-clause-kept c =
    let i = c.self.inside in
    subst (λ (a : LedgerWithRoom). IsWellKept a.ledger.limits (present a.ledger)) c.self.view_is
    (present_kept i.config.limits i.config.map i.journal.entries c.self.invariant)
