use Rattle.std.proofs.Common.{arith}
use Rattle.tsn_encoding.proofs.Numerals.{one_digit, below_hundred}
use Rattle.tsn_encoding.proofs.digits.put_up_to_two.Goals as goal

pub returns-then-number-lt10-clause-text : goal.returns-then-number-lt10-clause-text
returns-then-number-lt10-clause-text c = one_digit c.args.bytes.now c.args.at c.args.number c.if-number-lt10.true (omega arith)

pub returns-clause-text : goal.returns-clause-text
returns-clause-text c = below_hundred _ _ c.args.number c.if-number-lt10.false c.requires.below c.put_two.ensures
