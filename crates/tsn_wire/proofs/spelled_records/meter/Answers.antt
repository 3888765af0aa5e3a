use Rattle.tsn_wire.proofs.Spelling.{meter_text}
use Rattle.tsn_wire.proofs.spelled_records.meter.Goals as goal

pub returns-clause-text : goal.returns-clause-text
returns-clause-text c =
    meter_text _ _ _ _ _ _ _ _ _ _ _ c.in_ok-all_red.ensures c.in_ok-aware.ensures c.in_ok-cbs.ensures.1 c.in_ok-cf.ensures
    c.in_ok-cir.ensures.1 c.in_ok-drop_yellow.ensures c.in_ok-ebs.ensures.1 c.in_ok-eir.ensures.1 c.in_ok-expect.ensures
