use Rattle.tsn_replies.proofs.Lines.{pass_line}
use Rattle.tsn_replies.proofs.running.push_pass.Goals as goal

pub returns : goal.returns
returns c =
    pass_line c.args.filter c.args.now c.args.priority c.args.yellow _ _ _ _ _ _ c.requires
    (rw c.plain_filter_id.ensures at c.push_or_null.ensures.text) (rw c.get.ensures.same at c.push_number.ensures.text)
    (rw c.get-2.ensures.same at c.push_number-2.ensures.text) c.push_flag.ensures.text c.push.ensures.text
