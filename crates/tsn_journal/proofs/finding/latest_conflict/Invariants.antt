use Rattle.std.proofs.Common.{◌≡◌, drop, take}
use Rattle.std.specs.Prelude.{◌&&◌, is_some, option_map}
use Rattle.tsn_entries.specs.Entries.{applies}
use Rattle.tsn_entries.specs.Finding.{last_where}
use Rattle.tsn_journal.specs.Index.{is_sought}
use Rattle.tsn_entries.specs.Marks.{is_in_conflict, stands}
use Rattle.tsn_journal.proofs.finding.latest_conflict.Given as goal

-- the latest so far is in conflict with the parts so far
abbrev pub invariant-loop-part : goal.invariant-loop-part
invariant-loop-part l = l.latest ≡ option_map (λ m. m.entry.number)
    (last_where (λ m. (is_some (stands m) && is_sought l.but m) && is_in_conflict (applies m.entry.what) (take l.part-index l.change))
    (drop l.after l.marked))
