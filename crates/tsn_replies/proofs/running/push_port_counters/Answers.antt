use Rattle.tsn_replies.proofs.Lines.{port_line}
use Rattle.tsn_replies.proofs.running.push_port_counters.Goals as goal

pub returns : goal.returns
returns c =
    port_line c.args.list.now _ _ _ _ _ _ c.requires c.push_number.ensures.text c.push_or_null.ensures.text c.push_flag.ensures.text
    c.push_flag-2.ensures.text c.push.ensures.text
