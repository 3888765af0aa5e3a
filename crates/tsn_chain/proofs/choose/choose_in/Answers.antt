use Rattle.std.proofs.Common.{◌≡◌, ◌∙◌, ap, sym, subst, Some, None}
use Rattle.std.specs.Ordering.{nat_cmp}
use Rattle.std.specs.FinMap.{FinMap, entries}
use Rattle.tsn_types.specs.declared.records.StreamFilter.{StreamFilter}
use Rattle.tsn_table.specs.Firsts.{first_id, lesser}
use Rattle.tsn_config.specs.Filters.{AreFilters, specifies}
use Rattle.tsn_chain.specs.Chosen.{chosen, IsLeast}
use Rattle.tsn_table.proofs.Firsts.{lesser_by-nat_cmp}
use Rattle.tsn_chain.proofs.Least.{chosen_of_four, least}
use Rattle.tsn_chain.proofs.choose.choose_in.Goals as goal

-- the lesser of the two answers, each of which is the lesser of two
told : (c : goal.After-lesser) (fs : FinMap nat_cmp StreamFilter) → AreFilters fs c.args.config.now.map
    → c.lesser.result ≡ chosen c.args.handle c.args.priority fs
told c fs are =
    let handle = c.args.handle in
    let priority = Some c.args.priority in
    c.lesser.ensures
    ∙ lesser_by-nat_cmp c.first_with_either-own.result c.first_with_either-any.result
    ∙ ap (λ o. lesser o c.first_with_either-any.result) (c.first_with_either-own.ensures fs are)
    ∙ ap (lesser (lesser (first_id (specifies (Some handle) priority) (entries fs)) (first_id (specifies (Some handle) None) (entries fs))))
    (c.first_with_either-any.ensures fs are)
    ∙ sym (chosen_of_four c.args.handle c.args.priority fs)

pub returns-clause-chosen : goal.returns-clause-chosen
returns-clause-chosen c = λ fs are. told c fs are

pub returns-clause-least : goal.returns-clause-least
returns-clause-least c =
    λ fs are. subst (λ o. IsLeast c.args.handle c.args.priority fs o) (sym (told c fs are)) (least c.args.handle c.args.priority fs)
