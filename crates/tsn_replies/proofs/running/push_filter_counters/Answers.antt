use Rattle.tsn_replies.proofs.Lines.{filter_line}
use Rattle.tsn_replies.proofs.running.push_filter_counters.Goals as goal

pub returns : goal.returns
returns c =
    filter_line c.args.filter.now _ _ _ _ _ _ _ _ _ c.requires c.push_flag.ensures.text c.push_number.ensures.text
    c.push_number-2.ensures.text c.push_number-3.ensures.text c.push_number-4.ensures.text c.push_number-5.ensures.text
    c.push_number-6.ensures.text c.push.ensures.text
