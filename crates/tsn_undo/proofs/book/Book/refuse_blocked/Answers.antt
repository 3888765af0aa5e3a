use Rattle.tsn_undo.proofs.Blocked.{blocked_if}
use Rattle.tsn_undo.proofs.book.Book.refuse_blocked.Goals as goal

pub returns-clause-refused : goal.returns-clause-refused
returns-clause-refused c = blocked_if c.args.self.now.ledger c.args.session c.conflict_with_others.result c.conflict_with_others.ensures
