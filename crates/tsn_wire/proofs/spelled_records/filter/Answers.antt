use Rattle.std.proofs.Common.{append_assoc}
use Rattle.json.specs.Print.{escape_byte}
use Rattle.tsn_wire.proofs.spelled_records.filter.Goals as goal

pub returns-clause-text : goal.returns-clause-text
unfolding escape_byte
returns-clause-text c = rw (
  c.in_ok-gate.ensures.1,
  c.in_ok-handle.ensures.1,
  c.in_ok-max_sdu.ensures.1,
  c.in_ok-meter.ensures.1,
  c.in_ok-oversize.ensures,
  c.in_ok-priority.ensures.1,
  c.in_ok-expect.ensures,
) (simp append_assoc)
