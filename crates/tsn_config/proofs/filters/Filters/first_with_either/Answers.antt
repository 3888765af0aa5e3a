use Rattle.std.proofs.Common.{◌≡◌, ◌∙◌, ap, sym, None, Some, arith}
use Rattle.std.specs.FinMap.{entries}
use Rattle.tsn_table.specs.Firsts.{first_id, lesser}
use Rattle.tsn_table.specs.View.{TableView}
use Rattle.tsn_types.specs.declared.records.StreamFilter.{StreamFilter}
use Rattle.tsn_config.specs.Indexes.{is_the, match_about, specification}
use Rattle.tsn_config.specs.Filters.{specifies}
use Rattle.tsn_config.proofs.Indexed.{specifies_alike}
use Rattle.tsn_config.proofs.filters.Filters.first_with_either.Goals as goal

pub returns-clause-least : goal.returns-clause-least
returns-clause-least c =
    let i = c.self.inside in
    let handle = c.args.handle in
    let own = Some c.args.priority in
    let any_is = c.specification_of-any.ensures.value in
    let own_is : c.with_priority.result ≡ specification handle own = omega (arith, c.with_priority.ensures.value, any_is) in
    c.least_of_two.ensures.least match_about i.rows.map (specifies handle own) (specifies handle None) c.self.invariant.matches
    c.self.invariant.small
    (λ n r is. specifies_alike handle own r c.with_priority.ensures.narrow (c.self.invariant.narrow n r is)
    ∙ ap (λ q. is_the q (match_about r)) (sym own_is))
    (λ n r is. specifies_alike handle None r c.specification_of-any.ensures.narrow (c.self.invariant.narrow n r is)
    ∙ ap (λ q. is_the q (match_about r)) (sym any_is))
    ∙ ap (λ (t : TableView StreamFilter). lesser (first_id (specifies handle own) (entries t.map))
    (first_id (specifies handle None) (entries t.map))) c.self.view_is
