use Rattle.std.proofs.Common.{ap, arith}
use Rattle.tsn_table.specs.Tree.{numbers_of}
use Rattle.tsn_table.specs.View.{TableView}
use Rattle.tsn_table.proofs.Rising.{was_not_there}
use Rattle.tsn_table.proofs.numbers.Numbers.take.Goals as goal

pub returns-else-gone-clause-back : goal.returns-else-gone-clause-back
returns-else-gone-clause-back c = λ there.
    let p = c.take_from.ensures in
    let same = rw c.if-gone.false at p.shorter in
    absurd (was_not_there c.args.id (numbers_of c.self.inside.tree) _ _ (ap (λ (r : TableView _). r.map) c.self.view_is) p.numbers
    (omega (arith, same)) there)
