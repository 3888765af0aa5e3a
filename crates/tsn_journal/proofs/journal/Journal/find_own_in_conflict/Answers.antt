use Rattle.std.proofs.Common.{subst, sym}
use Rattle.tsn_journal.specs.Crossed.{IsFreeAbove}
use Rattle.tsn_journal.specs.Index.{IsIndexed}
use Rattle.tsn_journal.proofs.journal.Journal.find_own_in_conflict.Goals as goal

pub own_in_conflict-requires-clause-index : goal.own_in_conflict-requires-clause-index
own_in_conflict-requires-clause-index c =
    subst (λ xs. IsIndexed xs c.self.inside.index) (sym c.deref.ensures.value) c.self.invariant.indexed

pub own_in_conflict-requires-clause-free : goal.own_in_conflict-requires-clause-free
own_in_conflict-requires-clause-free c = subst (IsFreeAbove c.self.inside.crossed) (sym c.deref.ensures.value) c.self.invariant.free
