use Rattle.tsn_commit.proofs.Entered.{line_fits}
use Rattle.tsn_commit.proofs.scribe.enter_all.Goals as goal

pub enter-requires-clause-recorded : goal.enter-requires-clause-recorded
enter-requires-clause-recorded g c =
    line_fits c.lines.keeper.last c.args.stamp.now c.in-Some.line.now c.requires.stamp (rw c.in-Some.line-is c.in-Some.ensures.line)
