use Rattle.std.proofs.Common.{ap, ap₂, codes, ◌≡◌, ◌∙◌}
use Rattle.std.proofs.lemmas.Result.{IfOk-weaker}
use Rattle.clap.specs.Simple.{app_of_fields}
use Rattle.clap.specs.Words.{app_of, new_app, with_rule}
use Rattle.tsn_words.proofs.arguments.serve.Goals as goal

pub returns : goal.returns
returns c =
    let begun : app_of c.after_help.result ≡ new_app (codes "serve") =
    ap app_of_fields c.after_help.ensures ∙ ap app_of_fields c.about.ensures ∙ c.new.ensures.app in
    let first = c.in_ok-arg.ensures.shape c.setup_file.ensures.local ∙ ap₂ with_rule begun c.setup_file.ensures.rule in
    let second = c.in_ok-arg-2.ensures.shape c.text_or_none.ensures.local ∙ ap₂ with_rule first c.text_or_none.ensures.rule in
    let third = c.in_ok-arg-3.ensures.shape c.number_or_none.ensures.local
    ∙ ap₂ with_rule second c.number_or_none.ensures.rule in
    let fourth = c.in_ok-arg-4.ensures.shape c.number_or_none-2.ensures.local
    ∙ ap₂ with_rule third c.number_or_none-2.ensures.rule in
    let fifth = c.in_ok-arg-5.ensures.shape c.number_or_none-3.ensures.local
    ∙ ap₂ with_rule fourth c.number_or_none-3.ensures.rule in
    let sixth = c.in_ok-arg-6.ensures.shape c.number_or_none-4.ensures.local ∙ ap₂ with_rule fifth c.number_or_none-4.ensures.rule in
    let seventh = c.in_ok-arg-7.ensures.shape c.text_or_none-2.ensures.local ∙ ap₂ with_rule sixth c.text_or_none-2.ensures.rule in
    let eighth = c.in_ok-arg-8.ensures.shape c.text_or_none-3.ensures.local ∙ ap₂ with_rule seventh c.text_or_none-3.ensures.rule in
    IfOk-weaker c.arg-9.result _ _ (λ r h. h.shape c.flag.ensures.local ∙ ap₂ with_rule eighth c.flag.ensures.rule) c.arg-9.ensures
