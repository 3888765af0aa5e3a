use Rattle.tsn_encoding.proofs.Pieces.{gate_end_pieces}
use Rattle.tsn_encoding.proofs.shown.push_gate_end.Goals as goal

pub returns-clause-text : goal.returns-clause-text
returns-clause-text c =
    gate_end_pieces c.args.gate.now _ _ _ _ c.push_flag.ensures.text c.push_flag-2.ensures.text c.push.ensures.text
