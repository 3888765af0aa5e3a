use Rattle.std.proofs.Common.{sym, ◌∙◌, ap, rules, arith}
use Rattle.std.specs.Prelude.{is_some}
use Rattle.std.specs.Option.{option_copied}
use Rattle.std.specs.Ordering.{nat_cmp}
use Rattle.std.specs.FinMap.{FinMap, entries}
use Rattle.tsn_types.specs.declared.records.StreamFilter.{StreamFilter}
use Rattle.tsn_table.specs.Firsts.{first_id}
use Rattle.tsn_config.specs.Views.{RowsView}
use Rattle.tsn_config.proofs.Dangling.{dangles, dangling_cause-none, dangling_cause-first, first_there}
use Rattle.tsn_config.proofs.rows.Rows.first_dangling.Goals as goal

pub returns-in_err-number : goal.returns-in_err-number
returns-in_err-number c = grind (arith, dangles, dangling_cause-none)

pub returns-in_err-filter : goal.returns-in_err-filter
returns-in_err-filter c =
    let i = c.self.inside in
    let first = c.first_where.ensures (dangles c.args.self.now.map) (λ x b h. search rules)
    ∙ ap (λ (fs : FinMap nat_cmp StreamFilter). first_id (dangles c.args.self.now.map) (entries fs)) c.rows.ensures in
    let there =
    first_there i.ports.map i.filters.map i.gates.map i.meters.map c.in_ok-number.number
    (ap (λ (s : RowsView). first_id (dangles s.map) (entries i.filters.map)) c.self.view_is ∙ sym first ∙ c.in_ok-number.was) in
    let none = sym c.get.ensures ∙ ap option_copied c.in_err-filter.was in
    let never = sym there ∙ ap is_some none in (cc)

pub returns : goal.returns
returns c = grind (arith, dangles, dangling_cause-first)
