use Rattle.std.proofs.Common.{arith, sym, subst}
use Rattle.std.proofs.lemmas.List.{length-map}
use Rattle.tsn_journal.proofs.Walking.{few_pass}
use Rattle.tsn_journal.proofs.Finders.{own_count}
use Rattle.tsn_journal.specs.Index.{IsIndexed}
use Rattle.tsn_journal.proofs.journal.Journal.count_of.Goals as goal

pub returns-clause-count : goal.returns-clause-count
returns-clause-count c =
    let s = c.args.session in grind (arith, own_count c.self.inside.marked.items c.self.invariant.journal s)

pub returns-clause-few : goal.returns-clause-few
returns-clause-few c = grind (arith, few_pass, length-map)

pub tally_of-requires-clause-index : goal.tally_of-requires-clause-index
tally_of-requires-clause-index c = subst (λ xs. IsIndexed xs c.self.inside.index) (sym c.deref.ensures.value) c.self.invariant.indexed
