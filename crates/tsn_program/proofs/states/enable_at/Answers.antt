use Rattle.std.proofs.Common.{inl, inr, subst, Bool}
use Rattle.std.proofs.lemmas.Result.{IfErr-weaker, err_from_is_err_and, on_ok_weaker}
use Rattle.tsn_program.specs.Listing.{Applies}
use Rattle.tsn_program.proofs.Seen.{applied, enabled, greeted}
use Rattle.tsn_program.proofs.states.enable_at.Goals as goal

pub returns-in_err-take-clause-refused : goal.returns-in_err-take-clause-refused
returns-in_err-take-clause-refused c =
    let gone = err_from_is_err_and c.from_residual.result c.from_residual.ensures.1 in
    rw (gone.1, gone.2) (inl c.in_err-take.ensures.refused)

pub returns-in_err-take-2-clause-refused : goal.returns-in_err-take-2-clause-refused
returns-in_err-take-2-clause-refused c =
    let gone = err_from_is_err_and c.from_residual-in_err-take-2.result c.from_residual-in_err-take-2.ensures.1 in
    rw (gone.1, gone.2) (inr (c.take.new.bridge, c.in_ok-take.ensures.ok, inl c.in_err-take-2.ensures.refused))

pub returns-clause-refused : goal.returns-clause-refused
returns-clause-refused c =
    IfErr-weaker c.apply_listed.result _ _
    (λ why refused. inr (c.take.new.bridge, c.in_ok-take.ensures.ok, inr (c.take-2.new.bridge, c.in_ok-take-2.ensures.ok, refused)))
    c.apply_listed.ensures.refused

pub returns-clause-ok : goal.returns-clause-ok
returns-clause-ok c =
    on_ok_weaker c.apply_listed.result
    (λ applies. (
      c.take.new.bridge,
      c.take-2.new.bridge,
      c.in_ok-take.ensures.ok,
      c.in_ok-take-2.ensures.ok,
      subst (λ (b : Bool). Applies b c.take-2.new.bridge c.args.port c.args.now c.apply_listed.new.bridge) c.has_list-is_listed.ensures
          applies,
    ))
    c.apply_listed.ensures.ok

pub returns-clause-seen : goal.returns-clause-seen
returns-clause-seen c =
    let new = greeted c.args.bridge.now c.take.new.bridge c.requires c.in_ok-take.ensures.ok in
    let on = enabled c.take.new.bridge c.take-2.new.bridge c.args.port c.args.now new c.in_ok-take-2.ensures.ok in
    on_ok_weaker c.apply_listed.result
    (λ applies. applied c.has_list-is_listed.result c.take-2.new.bridge c.apply_listed.new.bridge c.args.port c.args.now on.1 on.0 applies)
    c.apply_listed.ensures.ok
