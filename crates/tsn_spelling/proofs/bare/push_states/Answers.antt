use Rattle.tsn_records.specs.Keys.{key_text}
use Rattle.tsn_spelling.proofs.Shapes.{states_line}
use Rattle.tsn_spelling.proofs.bare.push_states.Goals as goal

pub returns : goal.returns
returns c = states_line c.args.session (key_text c.args.key) c.args.at _ _ _ _ c.requires
    (rw c.get.ensures.same at c.push_number.ensures.text) c.push_key_text.ensures.text c.push_session.ensures
