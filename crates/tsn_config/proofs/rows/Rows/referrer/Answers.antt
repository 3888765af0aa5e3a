use Rattle.std.proofs.Common.{arith}
use Rattle.tsn_config.proofs.Listed.{referrer-map_of_tables}
use Rattle.tsn_config.proofs.rows.Rows.referrer.Goals as goal

pub returns : goal.returns
returns c = grind (arith, referrer-map_of_tables)
