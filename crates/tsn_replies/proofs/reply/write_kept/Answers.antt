use Rattle.std.proofs.Common.{subst}
use Rattle.tsn_encoding.specs.Writing.{Writes}
use Rattle.tsn_encoding.proofs.Telling.{kept_line}
use Rattle.tsn_replies.proofs.reply.write_kept.Goals as goal

pub returns : goal.returns
returns g c =
    let w = subst (Writes _ _ _ _ _) (kept_line c.args.entries.now) c.write_told.ensures in
    record { ok = w.ok; worked = w.worked; fault = w.fault; failed = w.failed; cut = w.cut }
