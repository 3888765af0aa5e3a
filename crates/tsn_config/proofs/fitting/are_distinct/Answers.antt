use Rattle.std.proofs.Common.{arith}
use Rattle.std.proofs.Math.ListN.{drop_of_length-le}
use Rattle.std.proofs.lemmas.List.{take_rest}
use Rattle.tsn_config.proofs.Suffixes.{distinct_left, distinct_next, next_left, none_distinct, not_distinct}
use Rattle.tsn_config.proofs.fitting.are_distinct.Goals as goal

pub returns-then-is_on : goal.returns-then-is_on
returns-then-is_on c = grind (arith, take_rest, not_distinct, next_left, distinct_left)

pub loop-index-preserved : goal.loop-index-preserved
loop-index-preserved c = λ distinct. grind (arith, take_rest, distinct_next, next_left)

pub returns : goal.returns
returns c = grind (arith, none_distinct, drop_of_length-le)
