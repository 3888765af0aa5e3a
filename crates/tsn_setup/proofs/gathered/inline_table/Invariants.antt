use Rattle.std.proofs.Common.{◌≤◌, length}
use denote.Text.{Utf8}
use denote.Shadow.{shadow}
use Rattle.tsn_setup.specs.Plain.{TableSoFar}
use Rattle.tsn_setup.proofs.gathered.inline_table.Given as goal

abbrev pub invariant-members : goal.invariant-members
invariant-members g l =
    shadow (Utf8 l.rest) × ((length l.rest ≤ length l.fn.text) × TableSoFar l.fn.text (g.M.PlainTable.trays l.found) l.rest)
