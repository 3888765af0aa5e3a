use Rattle.std.proofs.Common.{◌≡◌, drop}
use Rattle.tsn_records.specs.Answers.{each}
use Rattle.tsn_records.proofs.Entries.{with_front}
use Rattle.tsn_records.proofs.ranges.entries.Given as goal

abbrev pub invariant-drafts : goal.invariant-drafts
invariant-drafts g l =
    with_front l.list (each g.E.EntryRange.in_range (drop l.draft-index l.drafts)) ≡ each g.E.EntryRange.in_range l.drafts
