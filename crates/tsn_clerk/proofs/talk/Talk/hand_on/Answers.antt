use Rattle.std.proofs.Common.{[], inr, subst, sym}
use Rattle.tsn_bytes.specs.Bytes.{IsCut}
use Rattle.tsn_lasting.proofs.Answering.{err_of}
use Rattle.tsn_clerk.specs.Talking.{IsCovered, Parts}
use Rattle.tsn_clerk.proofs.Telling.{breaks_from, cut_short}
use Rattle.tsn_clerk.proofs.talk.Talk.hand_on.Goals as goal

pub returns-then-is_err-clause-err : goal.returns-then-is_err-clause-err
returns-then-is_err-clause-err g c =
    let a : Parts _ = record {
      caller = c.self.inside.end;
      due = c.self.inside.due;
      kept = c.self.inside.kept;
      replies = c.self.inside.replies;
      writer = c.self.inside.writer;
    } in
    breaks_from g.O.ByteOut.taken a c.args.self.now c.self.view_is _ []
    (inr (cut_short g.O.ByteOut.taken a c.put_all.new.writer
    (subst (λ (p : Parts _). IsCovered p.due p.kept) (sym c.self.view_is) c.requires)
    (subst (λ bytes. IsCut (g.O.ByteOut.taken c.self.inside.writer) (g.O.ByteOut.taken c.put_all.new.writer) bytes) c.bytes.ensures
    (err_of c.put_all.result c.if-is_err.ensures.value c.put_all.ensures.cut))))
