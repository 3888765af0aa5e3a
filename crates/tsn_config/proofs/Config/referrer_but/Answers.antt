use Rattle.std.proofs.Common.{◌≡◌, sym, ◌∙◌, ap, subst, Some, IfOk}
use Rattle.tsn_types.specs.declared.keys.Key.TheVariants.{Filter}
use Rattle.tsn_types.specs.declared.refusals.Refusal.TheVariants.{Referred}
use Rattle.tsn_types.specs.Keys.{has}
use Rattle.tsn_config.specs.Keeping.{referrer_beside}
use Rattle.tsn_config.specs.Views.{ConfigView}
use Rattle.tsn_config.proofs.Beside.{below_next, none_left, none_beside, one_beside}
use Rattle.tsn_config.proofs.Config.referrer_but.Goals as goal

pub returns-then-not-is_left_out : goal.returns-then-not-is_left_out
returns-then-not-is_left_out g c = λ ks answers.
    let i = c.self.inside in
    let number : c.unwrap.result ≡ c.in-Some.number = subst (λ r. IfOk r (λ m. m ≡ c.in-Some.number)) c.unwrap.ensures c.new.ensures.same in
    sym (ap (λ (s : ConfigView). referrer_beside ks s.map c.args.key.now) (sym c.self.view_is)
    ∙ one_beside i.limits i.rows.map c.self.invariant ks c.args.key.now c.in-Some.number c.in-Some.ensures.there.1
    (ap (λ n. has ks (Filter n)) (sym number) ∙ sym (answers _ _ c.is_left_out.ensures) ∙ c.if-not-is_left_out.true)
    (below_next i.rows.map ks c.args.key.now c.loop-number.from c.in-Some.number (c.loop-number.invariant.below ks answers)
    c.in-Some.ensures.least)
    ∙ ap (λ n. Some (Referred (Filter n))) (sym number))

pub returns : goal.returns
returns g c = λ ks answers.
    let i = c.self.inside in
    sym (ap (λ (s : ConfigView). referrer_beside ks s.map c.args.key.now) (sym c.self.view_is)
    ∙ none_beside i.limits i.rows.map c.self.invariant ks c.args.key.now
    (none_left i.rows.map ks c.args.key.now c.loop-number.from (c.loop-number.invariant.below ks answers) c.in_default.ensures.least))
