use Rattle.tsn_encoding.proofs.Pieces.{filter_pieces}
use Rattle.tsn_encoding.proofs.shown.push_filter.Goals as goal

pub returns-clause-text : goal.returns-clause-text
returns-clause-text c =
    filter_pieces c.args.filter.now _ _ _ _ _ _ _ _
    (rw c.get.ensures.same at c.push_number.ensures.text) (rw c.plain_handle.ensures at c.push_or_null.ensures.text)
    (rw c.plain_max_sdu.ensures at c.push_or_null-2.ensures.text) (rw c.plain_meter_id.ensures at c.push_or_null-3.ensures.text)
    c.push_flag.ensures.text (rw c.plain_priority.ensures at c.push_or_null-4.ensures.text) c.push.ensures.text
