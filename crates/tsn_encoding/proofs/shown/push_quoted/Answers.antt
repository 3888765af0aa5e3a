use Rattle.std.proofs.Common.{rules}
use Rattle.tsn_encoding.proofs.Pieces.{quoted_pieces}
use Rattle.tsn_encoding.proofs.shown.push_quoted.Goals as goal

pub returns-clause-text : goal.returns-clause-text
returns-clause-text c = quoted_pieces c.args.key c.args.text.now c.push.new.self c.push_key.new.text c.push-2.new.self (search rules)
    c.push.ensures.text c.push_key.ensures.text c.push-2.ensures.text
