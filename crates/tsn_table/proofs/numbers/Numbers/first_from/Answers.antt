use Rattle.std.proofs.Common.{ap}
use Rattle.tsn_table.specs.Tree.{numbers_of}
use Rattle.tsn_table.specs.View.{TableView}
use Rattle.tsn_table.proofs.Rising.{there_in, least_in}
use Rattle.tsn_table.proofs.numbers.Numbers.first_from.Goals as goal

pub returns-clause-there : goal.returns-clause-there
returns-clause-there c =
    there_in c.args.from (numbers_of c.self.inside.tree) _ _ (ap (λ (r : TableView _). r.map) c.self.view_is) c.first_in.ensures

pub returns-clause-least : goal.returns-clause-least
returns-clause-least c id by there =
    least_in c.args.from id (numbers_of c.self.inside.tree) _ _ (ap (λ (r : TableView _). r.map) c.self.view_is) c.first_in.ensures
    c.self.invariant.rising by there
