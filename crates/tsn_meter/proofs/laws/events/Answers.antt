use Rattle.tsn_meter.proofs.Rates.{red_takes_nothing, within}
use Rattle.tsn_meter.proofs.laws.events.Goals as goal

pub returns-clause-is_within : goal.returns-clause-is_within
returns-clause-is_within c = within

pub returns-clause-red_takes_nothing : goal.returns-clause-red_takes_nothing
returns-clause-red_takes_nothing c = red_takes_nothing
