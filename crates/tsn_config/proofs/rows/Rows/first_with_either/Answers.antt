use Rattle.std.proofs.Common.{◌∙◌, ap, None, Some}
use Rattle.std.specs.Ordering.{nat_cmp}
use Rattle.std.specs.FinMap.{FinMap, entries}
use Rattle.tsn_types.specs.declared.records.StreamFilter.{StreamFilter}
use Rattle.tsn_table.specs.Firsts.{first_id, lesser}
use Rattle.tsn_config.specs.Filters.{specifies}
use Rattle.tsn_config.specs.Views.{RowsView}
use Rattle.tsn_config.proofs.Joined.{same_filters}
use Rattle.tsn_config.proofs.rows.Rows.first_with_either.Goals as goal

pub returns-clause-least : goal.returns-clause-least
returns-clause-least c = λ fs are.
    let i = c.self.inside in
    let own = specifies c.args.handle (Some c.args.priority) in
    let any = specifies c.args.handle None in
    c.first_with_either.ensures.least
    ∙ ap (λ (t : FinMap nat_cmp StreamFilter). lesser (first_id own (entries t)) (first_id any (entries t)))
    (same_filters i.ports.map i.filters.map i.gates.map i.meters.map c.args.self.now.map fs (ap (λ (s : RowsView). s.map) c.self.view_is)
    are)
