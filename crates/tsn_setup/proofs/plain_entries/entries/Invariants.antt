use Rattle.std.proofs.Common.{◌≤◌, length}
use denote.Text.{Utf8}
use denote.Shadow.{shadow}
use Rattle.tsn_setup.specs.Plain.{EntriesSoFar}
use Rattle.tsn_setup.proofs.plain_entries.entries.Given as goal

abbrev pub invariant-entries : goal.invariant-entries
invariant-entries g l =
    shadow (Utf8 l.rest) × ((length l.rest ≤ length l.fn.text) × EntriesSoFar g.E.PlainEntry.shape l.fn.text l.list l.rest)
