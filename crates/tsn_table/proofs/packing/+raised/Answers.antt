use Rattle.std.proofs.Common.{arith}
use Rattle.tsn_table.proofs.Levels.{low_for, no_higher, no_lower}
use Rattle.tsn_table.proofs.packing.+raised.Goals as goal

pub between-requires-clause-low : goal.between-requires-clause-low
between-requires-clause-low t c = (
  low_for _ _ c.raised-left.ensures.height (omega arith),
  low_for _ _ c.raised-right.ensures.height (omega arith),
)

pub between-requires-clause-near : goal.between-requires-clause-near
between-requires-clause-near t c =
    let left = c.raised-left.ensures.height in
    let right = c.raised-right.ensures.height in (
      no_higher _ _ _ _ left right (omega arith),
      let lower = no_lower _ _ _ _ left right (omega arith) in omega (arith, lower),
    )
