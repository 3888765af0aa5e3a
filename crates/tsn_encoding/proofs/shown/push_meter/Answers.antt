use Rattle.tsn_encoding.proofs.Pieces.{meter_pieces}
use Rattle.tsn_encoding.proofs.shown.push_meter.Goals as goal

pub returns-clause-text : goal.returns-clause-text
returns-clause-text c =
    meter_pieces c.args.meter.now _ _ _ _ _ _ _ _ _ _
    c.push_flag.ensures.text c.push_flag-2.ensures.text (rw c.get.ensures.same at c.push_number.ensures.text) c.push_flag-3.ensures.text
    (rw c.get-2.ensures.same at c.push_number-2.ensures.text) c.push_flag-4.ensures.text
    (rw c.get-3.ensures.same at c.push_number-3.ensures.text) (rw c.get-4.ensures.same at c.push_number-4.ensures.text)
    c.push.ensures.text
