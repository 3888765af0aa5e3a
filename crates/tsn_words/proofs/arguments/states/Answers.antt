use Rattle.std.proofs.Common.{rules, ap₂, codes, ◌≡◌, ◌∙◌}
use Rattle.std.proofs.lemmas.Result.{IfOk-weaker}
use Rattle.clap.specs.Words.{app_of, new_app, with_rule}
use Rattle.tsn_words.proofs.arguments.states.Goals as goal

pub returns : goal.returns
returns c =
    let begun : app_of c.after_help.result ≡ new_app (codes "states") = search rules in
    let first = c.in_ok-arg.ensures.shape c.setup_file.ensures.local ∙ ap₂ with_rule begun c.setup_file.ensures.rule in
    let second = c.in_ok-arg-2.ensures.shape c.number.ensures.local ∙ ap₂ with_rule first c.number.ensures.rule in
    let third = c.in_ok-arg-3.ensures.shape c.number-2.ensures.local ∙ ap₂ with_rule second c.number-2.ensures.rule in
    let fourth = c.in_ok-arg-4.ensures.shape c.number-3.ensures.local ∙ ap₂ with_rule third c.number-3.ensures.rule in
    IfOk-weaker c.arg-5.result _ _ (λ r h. h.shape c.number-4.ensures.local ∙ ap₂ with_rule fourth c.number-4.ensures.rule)
    c.arg-5.ensures
