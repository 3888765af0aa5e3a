use Rattle.std.proofs.Common.{ap, ap₂, ◌∙◌}
use Rattle.std.proofs.lemmas.Result.{IfOk-weaker}
use Rattle.clap.specs.Words.{App, with_subcommand}
use Rattle.tsn_words.proofs.Worked.{local_by_shape}
use Rattle.tsn_words.proofs.arguments.command.Goals as goal

pub returns : goal.returns
returns c =
    let first = c.in_ok-subcommand.ensures.shape
    (local_by_shape c.in_ok-script.field-0 (ap (λ (a : App). a.top.is_plain) c.in_ok-script.ensures))
    ∙ ap₂ with_subcommand c.bare.ensures (ap (λ (a : App). a.top) c.in_ok-script.ensures) in
    let second = c.in_ok-subcommand-2.ensures.shape
    (local_by_shape c.in_ok-states.field-0 (ap (λ (a : App). a.top.is_plain) c.in_ok-states.ensures))
    ∙ ap₂ with_subcommand first (ap (λ (a : App). a.top) c.in_ok-states.ensures) in
    let third = c.in_ok-subcommand-3.ensures.shape
    (local_by_shape c.in_ok-serve.field-0 (ap (λ (a : App). a.top.is_plain) c.in_ok-serve.ensures))
    ∙ ap₂ with_subcommand second (ap (λ (a : App). a.top) c.in_ok-serve.ensures) in
    let fourth = c.in_ok-subcommand-4.ensures.shape
    (local_by_shape c.in_ok-check.field-0 (ap (λ (a : App). a.top.is_plain) c.in_ok-check.ensures))
    ∙ ap₂ with_subcommand third (ap (λ (a : App). a.top) c.in_ok-check.ensures) in
    IfOk-weaker c.subcommand-5.result _ _
    (λ r h. h.shape (local_by_shape c.in_ok-journal.field-0 (ap (λ (a : App). a.top.is_plain) c.in_ok-journal.ensures))
    ∙ ap₂ with_subcommand fourth (ap (λ (a : App). a.top) c.in_ok-journal.ensures)) c.subcommand-5.ensures
