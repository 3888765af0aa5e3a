use Rattle.std.proofs.Common.{◌≡◌, drop}
use Rattle.tsn_records.specs.Answers.{each}
use Rattle.tsn_records.proofs.Entries.{with_front}
use Rattle.tsn_wire.specs.Ranges.{edit_of_draft}
use Rattle.tsn_wire.proofs.ranges.edits_of_drafts.Given as goal

abbrev pub invariant-drafts : goal.invariant-drafts
invariant-drafts l = with_front l.edits.items (each edit_of_draft (drop l.draft-index l.drafts)) ≡ each edit_of_draft l.drafts
