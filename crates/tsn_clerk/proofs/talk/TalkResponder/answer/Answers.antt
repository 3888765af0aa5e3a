use Rattle.std.proofs.Common.{[], refl, sym, subst}
use Rattle.std.specs.Prelude.{option_map}
use Rattle.std.proofs.KnownBytes.{Appends-nil}
use Rattle.tsn_clerk.specs.Talking.{BreaksLine, Parts}
use Rattle.tsn_clerk.proofs.talk.TalkResponder.answer.Goals as goal

pub returns-in-Err-clause-broken : goal.returns-in-Err-clause-broken
returns-in-Err-clause-broken g c = (
  [],
  (
    refl,
    subst (λ (p : Parts _). BreaksLine g.O.ByteOut.taken c.args.self.now (option_map (λ s. s.now) c.args.line) p)
        (sym c.self.view_is) c.in-Err.ensures.err,
  ),
  Appends-nil _,
)
