use Rattle.std.proofs.Common.{refl}
use Rattle.tsn_program.proofs.checking.fail_at.Goals as goal

-- what was told is the line of the failure; the text that says where came behind it
pub returns : goal.returns
returns g c = (
  record {
    old = g.E.ByteOut.taken c.args.errors.now;
    new = g.E.ByteOut.taken c.fail-status.new.errors;
    held_back = g.E.ByteOut.pending c.fail-status.new.errors;
    failed = g.E.ByteOut.has_failed c.fail-status.new.errors;
  },
  refl,
  (c.fail-status.ensures.status, c.fail-status.ensures.line),
  (_, c.tell.ensures),
)
