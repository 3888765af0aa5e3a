use Rattle.tsn_config.proofs.Joined.{map_of_tables-empty}
use Rattle.tsn_config.proofs.rows.Rows.new.Goals as goal

pub returns-clause-map : goal.returns-clause-map
returns-clause-map c = map_of_tables-empty c.new.result.map c.new-2.result.map c.new-3.result.map c.new-4.result.map c.new.ensures.map
    c.new-2.ensures.map c.new-3.ensures.map c.new-4.ensures.map
