use Rattle.std.proofs.Common.{◌≡◌, List, Some, take, true}
use Rattle.std.specs.Prelude.{◌&&◌, option_map}
use Rattle.tsn_entries.specs.declared.entries.Entry.{Entry}
use Rattle.tsn_entries.specs.declared.entries.MarkedEntry.{MarkedEntry}
use Rattle.tsn_entries.specs.Entries.{applies}
use Rattle.tsn_entries.specs.Finding.{last_where}
use Rattle.tsn_journal.specs.Index.{above}
use Rattle.tsn_entries.specs.Marks.{is_in_conflict}
use Rattle.tsn_journal.specs.Touched.{CanTell}
use Rattle.tsn_journal.proofs.index.Index.told_conflict.Given as goal

-- the latest so far is told to be in conflict with the parts so far
abbrev pub invariant-loop-part : goal.invariant-loop-part
invariant-loop-part l = (ms : List MarkedEntry) (e : Entry) → CanTell ms l.self e → applies e.what ≡ Some l.change
    → above e.number l.latest ≡ above e.number
    (option_map (λ m. m.entry.number) (last_where (λ m. true && is_in_conflict (applies m.entry.what) (take l.part-index l.change)) ms))
