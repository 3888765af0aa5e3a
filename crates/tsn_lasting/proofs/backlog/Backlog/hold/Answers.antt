use Rattle.std.proofs.Common.{◌∙◌, ap}
use Rattle.tsn_replies.specs.Replies.{reply_text}
use Rattle.tsn_lasting.specs.Standing.{Replies}
use Rattle.tsn_lasting.proofs.Answering.{cut_back, not_ok}
use Rattle.tsn_lasting.proofs.backlog.Backlog.hold.Goals as goal

-- what was written of the reply is cut off again
pub returns-clause-none : goal.returns-clause-none
returns-clause-none c _ =
    ap (λ (r : Replies). r.bytes) c.cut.ensures
    ∙ cut_back _ _ (reply_text c.args.reply.now) c.len-before.result c.len-before.ensures
    (not_ok c.write_reply.result c.if-is_ok.ensures.value c.write_reply.ensures.cut)
