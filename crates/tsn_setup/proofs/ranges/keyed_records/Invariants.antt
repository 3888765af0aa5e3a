use Rattle.std.proofs.Common.{◌≡◌, drop}
use Rattle.tsn_records.specs.Answers.{each}
use Rattle.tsn_setup.specs.Ranges.{keyed_record}
use Rattle.tsn_setup.specs.Tables.{with_front}
use Rattle.tsn_setup.proofs.ranges.keyed_records.Given as goal

abbrev pub invariant-tables : goal.invariant-tables
invariant-tables l = with_front l.records (each keyed_record (drop l.table-index l.tables)) ≡ each keyed_record l.tables
