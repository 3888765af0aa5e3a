use Rattle.std.proofs.Common.{sym, subst, arith}
use Rattle.tsn_journal.specs.Index.{IsIndexed}
use Rattle.tsn_journal.proofs.Finders.{own_parts}
use Rattle.tsn_journal.proofs.journal.Journal.parts_of.Goals as goal

pub returns : goal.returns
returns c =
    let s = c.args.session in grind (arith, own_parts c.self.inside.marked.items c.self.invariant.journal s)

pub tally_of-requires-clause-index : goal.tally_of-requires-clause-index
tally_of-requires-clause-index c = subst (λ xs. IsIndexed xs c.self.inside.index) (sym c.deref.ensures.value) c.self.invariant.indexed
