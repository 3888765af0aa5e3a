use Rattle.std.proofs.Common.{◌∙◌, ap}
use Rattle.std.specs.FinMap.{entries}
use Rattle.tsn_table.specs.Firsts.{first_id, lesser}
use Rattle.tsn_table.proofs.Firsts.{lesser_by-nat_cmp}
use Rattle.tsn_config.proofs.filters.least_of_two.Goals as goal

pub returns-clause-least : goal.returns-clause-least
returns-clause-least c = λ what fs p q indexes small own less.
    let index = c.args.index.now.map in
    c.lesser.ensures
    ∙ lesser_by-nat_cmp c.filter_about.result c.filter_about-2.result
    ∙ ap (λ o. lesser o c.filter_about-2.result) (c.filter_about.ensures.least index what fs p c.first_after-own.ensures indexes small own)
    ∙ ap (lesser (first_id p (entries fs))) (c.filter_about-2.ensures.least index what fs q c.first_in-first.ensures indexes small less)
