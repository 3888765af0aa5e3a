use Rattle.tsn_bridge.specs.Histories as machine
use Rattle.tsn_serve.proofs.Writing.{broke_in_writing}
use Rattle.tsn_serve.proofs.script.BridgeResponder.answer.Goals as goal

pub returns-clause-broken : goal.returns-clause-broken
returns-clause-broken g c = broke_in_writing machine.Answers c.write_reply.result _ _ _ _ _ _
    (c.read_line-read.result, c.read_line-read.ensures, c.reply_to-reply.ensures) c.write_reply.ensures.fault c.write_reply.ensures.cut
