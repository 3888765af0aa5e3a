use Rattle.std.proofs.Common.{subst}
use Rattle.tsn_clerk.specs.Noting.{IsHeard}
use Rattle.tsn_clerk.proofs.Noting.{noted_line}
use Rattle.tsn_clerk.proofs.clerk.Clerk.note.Goals as goal

pub returns-in-Line : goal.returns-in-Line
returns-in-Line g c ask h =
    noted_line ask c.args.reply.now c.args.self.now.line c.record.result
    (subst (λ heard. IsHeard heard c.args.self.now.line ask) c.in-Line.is h) c.record.ensures
