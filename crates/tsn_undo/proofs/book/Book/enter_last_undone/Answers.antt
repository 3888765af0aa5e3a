use Rattle.std.proofs.Common.{◌∙◌, ap, map, subst, sym}
use Rattle.std.specs.Prelude.{◌==◌}
use Rattle.tsn_entries.specs.Entries.{Applied, standing}
use Rattle.tsn_entries.specs.Finding.{own_standing}
use Rattle.tsn_undo.specs.Commuting.{IsClosed}
use Rattle.tsn_undo.specs.Ledger.{Ledger}
use Rattle.tsn_undo.specs.UndoAll.{all_undone, taking_back}
use Rattle.tsn_undo.proofs.UndoAll.{IsLastUndone, last_undone}
use Rattle.tsn_undo.proofs.book.Book.enter_last_undone.Goals.{After-journal}
use Rattle.tsn_undo.proofs.book.Book.enter_last_undone.Goals as goal

-- what taking back the last one leaves
last : (c : After-journal) → IsLastUndone c.args.self.now.ledger c.args.session c.args.rest.now c.args.back
last c =
    last_undone c.args.self.now.ledger c.args.session c.args.rest.now c.args.back c.journal.ensures.sound c.requires.closed c.requires.last

pub enter_undone-requires-clause-same : goal.enter_undone-requires-clause-same
enter_undone-requires-clause-same c = (last (goal.at.enter_undone-requires-clause-same c).After-journal).same

pub enter_undone-requires-clause-fits : goal.enter_undone-requires-clause-fits
enter_undone-requires-clause-fits c = (last (goal.at.enter_undone-requires-clause-fits c).After-journal).fits

pub enter_undone-requires-clause-sound : goal.enter_undone-requires-clause-sound
enter_undone-requires-clause-sound c = (last (goal.at.enter_undone-requires-clause-sound c).After-journal).sound

pub returns-clause-left : goal.returns-clause-left
returns-clause-left c =
    (last (goal.at.returns-clause-left c).After-journal).left
    ∙ ap (λ (l : Ledger). map taking_back (own_standing l.entries c.args.session)) (sym c.enter_undone.ensures.after)

pub returns-clause-closed : goal.returns-clause-closed
returns-clause-closed c =
    subst (λ (l : Ledger). IsClosed (λ (x : Applied). x.session == c.args.session) (standing l.entries)) (sym c.enter_undone.ensures.after)
    (last (goal.at.returns-clause-closed c).After-journal).closed

pub returns-clause-all : goal.returns-clause-all
returns-clause-all c =
    ap (λ (l : Ledger). all_undone l c.args.session) c.enter_undone.ensures.after
    ∙ (last (goal.at.returns-clause-all c).After-journal).all
