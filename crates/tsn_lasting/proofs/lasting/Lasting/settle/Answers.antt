use Rattle.std.proofs.Common.{[], inr, subst}
use Rattle.tsn_bytes.specs.Bytes.{IsCut}
use Rattle.tsn_lasting.proofs.Answering.{breaks_from, cut_short, err_of, ok_of}
use Rattle.tsn_lasting.proofs.lasting.Lasting.settle.Goals as goal

pub returns-then-is_err-2-clause-err : goal.returns-then-is_err-2-clause-err
returns-then-is_err-2-clause-err g c =
    breaks_from g.W.ByteOut.taken _ c.args.self.now c.self.view_is _ []
    (inr (cut_short g.W.ByteOut.taken
    (record {
      bridge = c.self.inside.recorder.bridge;
      keeper = c.self.inside.keeper;
      replies = c.self.inside.replies;
      writer = c.self.inside.writer;
    })
    (record {
      bridge = c.self.inside.recorder.bridge;
      keeper = c.settle.new.self;
      replies = c.self.inside.replies;
      writer = c.put_all.new.writer;
    }) (ok_of c.settle.result c.if-is_err.ensures.value c.settle.ensures.ok)
    (subst (λ bytes. IsCut (g.W.ByteOut.taken c.self.inside.writer) (g.W.ByteOut.taken c.put_all.new.writer) bytes) c.bytes.ensures
    (err_of c.put_all.result c.if-is_err-2.ensures.value c.put_all.ensures.cut))))
