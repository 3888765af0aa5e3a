use Rattle.tsn_encoding.proofs.Numerals.{two_bytes}
use Rattle.tsn_encoding.proofs.digits.put_two.Goals as goal

pub returns : goal.returns
returns c = two_bytes c.args.bytes.now c.args.at c.args.number c.requires.below c.requires.room
