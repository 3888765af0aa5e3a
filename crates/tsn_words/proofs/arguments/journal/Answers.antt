use Rattle.std.proofs.Common.{rules, ap₂, codes, ◌≡◌, ◌∙◌}
use Rattle.std.proofs.lemmas.Result.{IfOk-weaker}
use Rattle.clap.specs.Words.{app_of, new_app, with_rule}
use Rattle.tsn_words.proofs.arguments.journal.Goals as goal

pub returns : goal.returns
returns c =
    let begun : app_of c.after_help.result ≡ new_app (codes "journal") = search rules in
    let first = c.in_ok-arg.ensures.shape c.journal_file.ensures.local ∙ ap₂ with_rule begun c.journal_file.ensures.rule in
    let second = c.in_ok-arg-2.ensures.shape c.number_or_none.ensures.local
    ∙ ap₂ with_rule first c.number_or_none.ensures.rule in
    let third = c.in_ok-arg-3.ensures.shape c.number_or_none-2.ensures.local ∙ ap₂ with_rule second c.number_or_none-2.ensures.rule in
    let fourth = c.in_ok-arg-4.ensures.shape c.flag.ensures.local ∙ ap₂ with_rule third c.flag.ensures.rule in
    let fifth = c.in_ok-arg-5.ensures.shape c.text_or_none.ensures.local ∙ ap₂ with_rule fourth c.text_or_none.ensures.rule in
    IfOk-weaker c.arg-6.result _ _ (λ r h. h.shape c.flag-2.ensures.local ∙ ap₂ with_rule fifth c.flag-2.ensures.rule) c.arg-6.ensures
