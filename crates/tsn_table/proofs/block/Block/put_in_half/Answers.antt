use Rattle.std.proofs.Common.{subst, arith}
use Rattle.tsn_table.specs.Blocks.{numbers_in}
use Rattle.tsn_table.specs.Rising.{IsRising}
use Rattle.tsn_table.proofs.Blocks.{put_fits}
use Rattle.tsn_table.proofs.Rising.{rising_back, rising_front}
use Rattle.tsn_table.proofs.Sides.{in_lower, in_upper}
use Rattle.tsn_table.proofs.block.Block.put_in_half.Goals as goal

pub put-requires : goal.put-requires
put-requires c =
    let parts = c.divide.ensures.numbers in
    record { rising = rising_front (numbers_in c.divide.new.self) (numbers_in c.divide.new.upper) (subst IsRising parts c.requires.rising) }

pub put-requires-else-id-upper : goal.put-requires-else-id-upper
put-requires-else-id-upper c =
    let parts = c.divide.ensures.numbers in
    record { rising = rising_back (numbers_in c.divide.new.self) (numbers_in c.divide.new.upper) (subst IsRising parts c.requires.rising) }

pub returns-then-id-upper : goal.returns-then-id-upper
returns-then-id-upper c =
    let upper = c.divide.new.upper in
    let put = put_fits c.args.id c.divide.new.self _ _ c.put.ensures (omega (arith, c.divide.ensures.lower)) in
    in_lower c.args.id _ (numbers_in c.divide.new.self) upper.least upper.more.items _ c.divide.ensures.numbers c.if-id-upper.true put

pub returns-else-id-upper : goal.returns-else-id-upper
returns-else-id-upper c =
    let upper = c.divide.new.upper in
    let put = put_fits c.args.id upper _ _ c.put-else-id-upper.ensures (omega (arith, c.divide.ensures.upper)) in
    in_upper c.args.id _ (numbers_in c.divide.new.self) upper.least upper.more.items _ c.divide.ensures.numbers c.if-id-upper.false
    c.requires.rising put
