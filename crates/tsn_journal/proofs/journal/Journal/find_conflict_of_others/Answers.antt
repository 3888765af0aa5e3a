use Rattle.std.proofs.Common.{sym, subst, arith}
use Rattle.tsn_journal.proofs.Conflicts.{others_conflict}
use Rattle.tsn_journal.specs.Index.{IsIndexed}
use Rattle.tsn_journal.proofs.journal.Journal.find_conflict_of_others.Goals as goal

pub returns : goal.returns
returns c = λ e is. grind (arith, others_conflict)

pub conflict_of_others-requires-clause-index : goal.conflict_of_others-requires-clause-index
conflict_of_others-requires-clause-index c =
    subst (λ xs. IsIndexed xs c.self.inside.index) (sym c.deref.ensures.value) c.self.invariant.indexed
