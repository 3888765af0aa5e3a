use Rattle.std.proofs.Common.{[], refl, sym}
use Rattle.std.proofs.KnownBytes.{Appends-nil}
use Rattle.tsn_lasting.proofs.Answering.{breaks_line_to}
use Rattle.tsn_lasting.proofs.lasting.LastingResponder.answer.Goals as goal

pub returns-in-Err-clause-broken : goal.returns-in-Err-clause-broken
returns-in-Err-clause-broken g c =
    ([], (refl, breaks_line_to g.W.ByteOut.taken c.args.self.now _ _ _ (sym c.self.view_is) c.in-Err.ensures.err), Appends-nil _)
