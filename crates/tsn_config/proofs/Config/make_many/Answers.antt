use Rattle.std.proofs.Common.{ap, arith, length}
use Rattle.tsn_edit.proofs.InOrder.{length_change}
use Rattle.tsn_config.proofs.Config.make_many.Goals as goal

pub apply-requires-clause-room : goal.apply-requires-clause-room
apply-requires-clause-room c = omega (
  arith,
  ap length c.in_ok-copy.ensures,
  ap length c.in_ok-change.ensures,
  length_change c.args.self.now.map c.args.edits.items,
  c.requires.room,
)

pub returns-clause-spare : goal.returns-clause-spare
returns-clause-spare c = omega (
  arith,
  ap length c.in_ok-copy.ensures,
  ap length c.in_ok-change.ensures,
  length_change c.args.self.now.map c.args.edits.items,
  c.apply.ensures.spare,
)
