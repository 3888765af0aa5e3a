use Rattle.std.proofs.Common.{Ok, inl, sym, ap, ◌∙◌}
use Rattle.tsn_resuming.specs.First.{first_text}
use Rattle.tsn_resuming.proofs.Finding.{is_text, no_text}
use Rattle.tsn_resuming.proofs.first.first_command.Goals as goal

pub returns-in_default : goal.returns-in_default
returns-in_default c = inl (sym (no_text c.args.setup.now c.in_default.ensures.cases.0))

pub returns : goal.returns
returns c =
    inl (ap Ok (ap (λ v. v.items) c.into_bytes.ensures.value ∙ c.in_ok-text.ensures ∙ ap first_text c.in-Ok.ensures.cases.0)
    ∙ sym (is_text c.args.setup.now c.in-Ok.ensures.cases.1))
