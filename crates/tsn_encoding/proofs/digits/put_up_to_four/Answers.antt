use Rattle.std.proofs.Common.{arith}
use Rattle.tsn_encoding.proofs.Numerals.{up_to_four}
use Rattle.tsn_encoding.proofs.digits.put_up_to_four.Goals as goal

pub returns-clause-text : goal.returns-clause-text
returns-clause-text c =
    up_to_four _ _ _ c.args.number c.if-number-lt100.false (omega arith) c.put_up_to_two-middle.ensures.text c.put_two.ensures
