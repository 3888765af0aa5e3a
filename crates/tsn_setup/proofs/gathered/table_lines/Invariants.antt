use Rattle.std.proofs.Common.{◌≤◌, length}
use denote.Text.{Utf8}
use denote.Shadow.{shadow}
use Rattle.tsn_setup.specs.Plain.{ReadsLines}
use Rattle.tsn_setup.proofs.gathered.table_lines.Given as goal

abbrev pub invariant-lines : goal.invariant-lines
invariant-lines g l =
    shadow (Utf8 l.rest) × ((length l.rest ≤ length l.fn.text) × ReadsLines l.fn.text (g.M.PlainTable.trays l.found) l.rest)
