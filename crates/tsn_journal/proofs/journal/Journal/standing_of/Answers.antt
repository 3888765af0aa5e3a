use Rattle.std.proofs.Common.{subst, sym, arith}
use Rattle.tsn_journal.proofs.Finders.{own_numbers}
use Rattle.tsn_journal.specs.Index.{IsIndexed}
use Rattle.tsn_journal.proofs.journal.Journal.standing_of.Goals as goal

pub returns : goal.returns
returns c =
    let s = c.args.session in grind (arith, own_numbers c.self.inside.marked.items c.self.invariant.journal s)

pub numbers_of-requires-clause-index : goal.numbers_of-requires-clause-index
numbers_of-requires-clause-index c = subst (λ xs. IsIndexed xs c.self.inside.index) (sym c.deref.ensures.value) c.self.invariant.indexed
