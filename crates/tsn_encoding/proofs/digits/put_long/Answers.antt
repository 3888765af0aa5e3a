use Rattle.std.proofs.Common.{arith}
use Rattle.tsn_encoding.proofs.Numerals.{beyond_eight}
use Rattle.tsn_encoding.proofs.digits.put_long.Goals as goal

pub returns-clause-text : goal.returns-clause-text
returns-clause-text c =
    beyond_eight _ _ _ c.args.number c.requires.above (omega arith) c.put_up_to_twelve-middle.ensures.text c.put_eight.ensures
