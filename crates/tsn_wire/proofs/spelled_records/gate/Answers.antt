use Rattle.std.proofs.Common.{◌++◌, codes, ap, ◌∙◌}
use Rattle.tsn_wire.proofs.Spelling.{gate_text}
use Rattle.tsn_wire.proofs.spelled_records.gate.Goals as goal

pub returns-clause-text : goal.returns-clause-text
returns-clause-text c =
    let list = c.in_ok-expect.ensures ∙ ap (λ l. codes ",\"list\":" ++ l) c.in_ok-list.ensures.text in
    gate_text _ _ _ _ _ _ _ _ _ _ _ c.in_ok-base.ensures.1 c.in_ok-cycle.ensures.1 c.in_ok-extension.ensures.1 c.in_ok-invalid_rx.ensures
    c.in_ok-ipv.ensures.1 list c.in_ok-octets_exceeded.ensures c.in_ok-is_open.ensures c.in_ok-expect-2.ensures
