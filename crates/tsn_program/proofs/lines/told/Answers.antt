use Rattle.std.proofs.Common.{◌++◌, ◌∙◌, ap, append_assoc, codes}
use Rattle.tsn_program.specs.Lines.{cause_text}
use Rattle.tsn_program.proofs.lines.told.Goals as goal

pub returns : goal.returns
returns c = (
  c.push_spot.ensures.text.0,
  c.push.ensures.text ∙ ap (λ l. l ++ codes "\n")
      (c.push_spot.ensures.text.1 ∙ ap (λ l. l ++ c.push_spot.ensures.text.0) c.push_cause.ensures.text)
      ∙ append_assoc (cause_text c.args.number c.args.why) c.push_spot.ensures.text.0 (codes "\n"),
)
