use Rattle.std.proofs.Common.{◌++◌, ◌∙◌, ap, append_assoc, codes}
use Rattle.tsn_program.proofs.lines.push_spot.Goals as goal

pub returns-clause-text : goal.returns-clause-text
returns-clause-text c = (
  codes ": " ++ c.as_bytes.result.now,
  c.push_bytes.ensures.text ∙ ap (λ l. l ++ c.as_bytes.result.now) c.push.ensures.text
      ∙ append_assoc c.args.text.now (codes ": ") c.as_bytes.result.now,
)
