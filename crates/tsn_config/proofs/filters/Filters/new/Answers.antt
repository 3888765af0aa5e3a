use Rattle.tsn_config.proofs.Indexed.{none_indexed}
use Rattle.tsn_config.proofs.filters.Filters.new.Goals as goal

pub invariant_of-result : goal.invariant_of-result
invariant_of-result c = none_indexed c.new.result.map c.new-2.result.map c.new-3.result.map c.new-4.result.map c.new.ensures.map
    c.new-2.ensures.map c.new-3.ensures.map c.new-4.ensures.map
