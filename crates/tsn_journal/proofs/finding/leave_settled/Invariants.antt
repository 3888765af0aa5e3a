use Rattle.std.proofs.Common.{◌≡◌, ◌<◌, ◌≤◌, ℕ, Some}
use Rattle.std.specs.List.{slice_get}
use Rattle.tsn_entries.specs.declared.entries.MarkedEntry.{MarkedEntry}
use Rattle.tsn_journal.specs.Index.{IsIndexed, TakesRoom}
use Rattle.tsn_journal.specs.Newest.{KeepsNewest, MendsNewest, groups_of}
use Rattle.tsn_journal.specs.Touched.{TellsSame}
use Rattle.tsn_journal.proofs.finding.leave_settled.Given as goal

-- the index keeps all entries, what it tells, and its room; the groups of the entries so far are mended
abbrev pub invariant-loop-place : goal.invariant-loop-place
invariant-loop-place l = record {
  indexed : IsIndexed l.marked l.index;
  newest : KeepsNewest l.marked l.initial.index l.index;
  settled : (i : ℕ) (m : MarkedEntry) → l.first ≤ i → i < l.place → slice_get l.marked i ≡ Some m
      → MendsNewest l.marked (groups_of m.entry) l.initial.index l.index;
  tells : TellsSame l.initial.index l.index;
  room : TakesRoom 0 l.initial.index l.index;
}
