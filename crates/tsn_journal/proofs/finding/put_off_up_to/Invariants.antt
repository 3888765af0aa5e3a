use Rattle.std.proofs.Common.{◌≡◌, ◌-◌, length, map}
use Rattle.tsn_entries.specs.declared.entries.What.TheVariants.{Settled}
use Rattle.tsn_entries.specs.Entries.{IsNumbered}
use Rattle.tsn_entries.specs.Marks.{AreOff, entries_of, mark_off}
use Rattle.tsn_journal.proofs.finding.put_off_up_to.Given as goal

-- the marks so far are off, and no other is off that is not to be
abbrev pub invariant-each : goal.invariant-each
invariant-each l = record {
  off : AreOff l.place l.marked;
  same : map (mark_off (Settled l.fn.upto)) l.marked ≡ map (mark_off (Settled l.fn.upto)) l.fn.marked;
  numbered : IsNumbered 1 (entries_of l.marked);
  len : length l.marked ≡ length l.fn.marked;
}

abbrev pub decreases-each : goal.decreases-each
decreases-each l = l.upto - l.place
