use Rattle.std.proofs.Common.{arith}
use Rattle.tsn_undo.proofs.Begun.{begun_book}
use Rattle.tsn_undo.proofs.book.Book.new.Goals as goal

pub invariant_of-result : goal.invariant_of-result
invariant_of-result c = grind (arith, begun_book)
