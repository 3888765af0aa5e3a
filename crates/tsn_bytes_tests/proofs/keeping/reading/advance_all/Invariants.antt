use Rattle.std.proofs.Common.{length}
use Rattle.tsn_bytes_tests.proofs.keeping.reading.advance_all.Given as goal

abbrev pub decreases-lines : goal.decreases-lines
decreases-lines l = length l.reader.held
