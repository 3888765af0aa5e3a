use Rattle.std.proofs.Common.{arith}
use Rattle.tsn_encoding.proofs.Numerals.{up_to_eight}
use Rattle.tsn_encoding.proofs.digits.put_up_to_eight.Goals as goal

pub returns-clause-text : goal.returns-clause-text
returns-clause-text c =
    up_to_eight _ _ _ c.args.number c.if-number-lt10000.false (omega arith) c.put_up_to_four-middle.ensures.text c.put_four.ensures
