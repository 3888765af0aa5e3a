use Rattle.std.proofs.Common.{arith}
use Rattle.tsn_encoding.proofs.Numerals.{beyond_eight}
use Rattle.tsn_encoding.proofs.digits.put_up_to_twelve.Goals as goal

pub returns-clause-text : goal.returns-clause-text
returns-clause-text c =
    beyond_eight _ _ _ c.args.number c.if-number-lt100000000.false (omega arith) c.put_up_to_four-middle.ensures.text c.put_eight.ensures
