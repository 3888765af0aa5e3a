use Rattle.std.proofs.Common.{◌++◌, codes, ap, ◌∙◌}
use Rattle.tsn_records.specs.Keys.{spelled_key}
use Rattle.tsn_wire.proofs.spelled_records.keyed_record.Goals as goal

pub returns : goal.returns
returns c = (
  c.in_ok-key.ensures.0,
  c.in_ok-value.ensures.small,
  c.in_ok-key.ensures.1 ∙ ap (λ l. spelled_key c.in_ok-key.key.kind c.in_ok-key.key.number ++ l)
      (c.in_ok-expect.ensures ∙ ap (λ l. codes "\",\"record\":" ++ l) c.in_ok-value.ensures.text),
)
