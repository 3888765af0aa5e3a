use Rattle.std.proofs.Common.{◌≡◌, ◌++◌, length}
use Rattle.tsn_commit.specs.Lines.{AreLines, lines_in}
use Rattle.tsn_commit.proofs.scribe.add_all.Given as goal

abbrev pub invariant-lines : goal.invariant-lines
invariant-lines g l = record {
  lines : AreLines l.rest;
  all : l.kept ++ lines_in l.rest ≡ l.initial.kept ++ lines_in l.text;
}

abbrev pub decreases-lines : goal.decreases-lines
decreases-lines g l = length l.rest
