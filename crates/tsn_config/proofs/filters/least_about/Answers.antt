use Rattle.tsn_config.proofs.filters.least_about.Goals as goal

pub returns-clause-least : goal.returns-clause-least
returns-clause-least c = λ what fs p. c.filter_about.ensures.least c.args.index.now.map what fs p c.first_in.ensures
