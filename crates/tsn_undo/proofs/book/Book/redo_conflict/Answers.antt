use Rattle.tsn_undo.proofs.Redone.{names_one}
use Rattle.tsn_undo.proofs.book.Book.redo_conflict.Goals as goal

pub unwrap-other-requires : goal.unwrap-other-requires
unwrap-other-requires c =
    names_one c.args.self.now.ledger c.args.session c.args.of c.journal-journal.result.now.entries c.fits_back.result
    c.find_redo_conflict.result
    c.journal-journal.ensures.sound c.journal-journal.ensures.entries c.requires c.fits_back.ensures c.if-fits_back.false
    c.find_redo_conflict.ensures
