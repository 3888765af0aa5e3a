use Rattle.std.proofs.Common.{length}
use Rattle.tsn_bytes_tests.proofs.commit.reading.count_lines.Given as goal

abbrev pub decreases-lines : goal.decreases-lines
decreases-lines l = length l.reader.held
