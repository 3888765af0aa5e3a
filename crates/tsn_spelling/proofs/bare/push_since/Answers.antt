use Rattle.tsn_spelling.proofs.Shapes.{since_line}
use Rattle.tsn_spelling.proofs.bare.push_since.Goals as goal

pub returns : goal.returns
returns c = since_line c.args.session c.args.after _ _ _ _ c.requires (rw c.from.ensures at c.push_number.ensures.text) c.push.ensures.text
    c.push_session.ensures
