use Rattle.tsn_replies.proofs.Lines.{gate_line}
use Rattle.tsn_replies.proofs.running.push_gate_counters.Goals as goal

pub returns : goal.returns
returns c =
    gate_line c.args.list.now c.args.invalid_rx c.args.octets_exceeded _ _ _ _ _ _ _ _ c.requires c.push_number.ensures.text
    c.push_or_null.ensures.text c.push_flag.ensures.text c.push_flag-2.ensures.text c.push_flag-3.ensures.text
    c.push_flag-4.ensures.text c.push.ensures.text
