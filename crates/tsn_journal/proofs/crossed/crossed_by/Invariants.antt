use Rattle.std.proofs.Common.{◌≡◌, ◌≤◌, Some, false, length, take}
use Rattle.tsn_journal.specs.Crossed.{IsRaised, NoneCrossed, is_on_referred}
use Rattle.tsn_journal.proofs.crossed.crossed_by.Given as goal

-- the parts so far conflict with nothing above the number so far, and are on no gate or meter where this is not of their own
abbrev pub invariant-loop-part : goal.invariant-loop-part
invariant-loop-part l = record {
  free : NoneCrossed l.crossed (Some (take l.part-index l.part-items)) l.session l.marked;
  rises : l.number ≤ l.crossed;
  own : l.crossed ≤ length l.marked → is_on_referred (Some (take l.part-index l.part-items)) ≡ false;
  raised : IsRaised l.number l.crossed l.marked l.session (Some (take l.part-index l.part-items));
}
