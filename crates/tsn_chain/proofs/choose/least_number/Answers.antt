use Rattle.std.proofs.Common.{◌≡◌, sym, subst, rules, Bool}
use Rattle.tsn_types.specs.declared.records.StreamFilter.{StreamFilter}
use Rattle.tsn_chain.specs.Chosen.{chosen, is_matching, IsLeast}
use Rattle.tsn_chain.proofs.Least.{least}
use Rattle.tsn_chain.proofs.choose.least_number.Goals as goal

pub returns-clause-least : goal.returns-clause-least
returns-clause-least c =
    let p : StreamFilter → Bool = is_matching c.args.handle c.args.priority in
    let is : c.first_where.result ≡ chosen c.args.handle c.args.priority c.args.filters.now.map = c.first_where.ensures p
    (λ x b h. search rules) in
    subst (λ o. IsLeast c.args.handle c.args.priority c.args.filters.now.map o) (sym is)
    (least c.args.handle c.args.priority c.args.filters.now.map)
