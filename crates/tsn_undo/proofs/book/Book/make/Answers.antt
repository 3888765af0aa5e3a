use Rattle.std.proofs.Common.{◌∙◌, ap}
use Rattle.tsn_undo.specs.Ledger.{LedgerWithRoom}
use Rattle.tsn_undo.proofs.Making.{made_book, own_refusal}
use Rattle.tsn_undo.proofs.book.Book.make.Goals as goal

pub make-requires-clause-admitted : goal.make-requires-clause-admitted
make-requires-clause-admitted c =
    let i = c.self.inside in
    own_refusal i.config.limits i.config.map i.journal.entries c.args.self.now.ledger (ap (λ (a : LedgerWithRoom). a.ledger) c.self.view_is)
    c.self.invariant c.args.batch ∙ c.requires.admitted

pub invariant_of-self-2 : goal.invariant_of-self-2
invariant_of-self-2 c =
    let i = c.self.inside in
    made_book i.config.limits i.config.map i.journal.entries c.args.self.now.ledger (ap (λ (a : LedgerWithRoom). a.ledger) c.self.view_is)
    c.self.invariant c.args.batch c.args.session
    c.make.new.self.limits c.make.new.self.map c.push.new.self.entries c.in_ok-change.change c.make.ensures.limits
    c.in_ok-change.ensures.change c.in_ok-change.ensures.fits c.in_ok-change.ensures.map c.push.ensures.entries
