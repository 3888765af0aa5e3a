use Rattle.std.proofs.Common.{◌*◌, ◌∙◌, subst}
use Rattle.tsn_config.specs.Indexes.{IsFirst}
use Rattle.tsn_config.proofs.Indexed.{least_none, least_own}
use Rattle.tsn_config.proofs.filters.filter_about.Goals as goal

pub returns-in_err-found-clause-least : goal.returns-in_err-found-clause-least
returns-in_err-found-clause-least c = λ index what fs p is indexes small tests.
    let first = subst (IsFirst index (c.args.about * 65536)) c.in_err-found.was is in
    c.from_residual.ensures ∙ least_none what fs p index c.args.about indexes small tests first.least

pub returns-clause-least : goal.returns-clause-least
returns-clause-least c = λ index what fs p is indexes small tests.
    let first = subst (IsFirst index (c.args.about * 65536)) c.in_ok-found.was is in
    least_own what fs p index c.args.about indexes small tests c.in_ok-found.found first.there.0 first.there.1 first.least
    c.own_filter.result c.own_filter.ensures.own
