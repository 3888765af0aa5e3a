use Rattle.std.proofs.Common.{◌≡◌, true, length}
use Rattle.tsn_commit.specs.Lines.{AreLines, lines_in}
use Rattle.tsn_commit.specs.Resting.{stamped, with_all}
use Rattle.tsn_commit.proofs.scribe.enter_all.Given as goal

abbrev pub invariant-lines : goal.invariant-lines
invariant-lines g l = record {
  works : l.keeper.works ≡ true;
  lines : AreLines l.rest;
  all : with_all (stamped l.stamp (lines_in l.rest)) l.keeper ≡ with_all (stamped l.stamp (lines_in l.text)) l.initial.keeper;
}

abbrev pub decreases-lines : goal.decreases-lines
decreases-lines g l = length l.rest
