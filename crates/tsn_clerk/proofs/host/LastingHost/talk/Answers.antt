use Rattle.std.proofs.Common.{◌≡◌, None, ap, subst, sym, ◌∙◌}
use Rattle.tsn_serve.specs.Talk.{Caller, Goes, caller_of}
use Rattle.tsn_clerk.specs.Talking.{Parts}
use Rattle.tsn_clerk.proofs.Going.{served}
use Rattle.tsn_clerk.proofs.host.LastingHost.talk.Goals as goal

pub returns : goal.returns
returns g c =
    let begins : c.new-talk.result.caller ≡ caller_of c.args.desk.now c.args.seat None = ap (λ (p : Parts _). p.caller) c.new-talk.ensures
    ∙ c.new-end.ensures in
    let ends : c.talk_on-ended.new.talk.caller ≡ caller_of c.args.desk.now c.into_seat.result c.into_end.result.latest = sym
    c.into_end.ensures ∙ c.into_seat.ensures.same in
    served c.args.desk.now c.args.seat c.into_seat.result c.into_end.result.latest c.into_seat.ensures.own
    (subst (λ (a : Caller). Goes a (caller_of c.args.desk.now c.into_seat.result c.into_end.result.latest)) begins
    (subst (λ (b : Caller). Goes c.new-talk.result.caller b) ends c.talk_on-ended.ensures))
