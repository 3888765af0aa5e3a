use Rattle.std.proofs.Common.{◌≡◌, ◌≤◌, Bool, None, length, drop}
use Rattle.tsn_entries.specs.Finding.{last_where}
use Rattle.tsn_entries.specs.Tests.{Tests}
use Rattle.tsn_entries.specs.declared.entries.MarkedEntry.{MarkedEntry}
use Rattle.tsn_entries.proofs.entries.last.Given as goal

abbrev pub invariant-back : goal.invariant-back
invariant-back g l =
    (l.place ≤ length l.marked)
    × ((p : MarkedEntry → Bool) → Tests g.F.Fn p l.test → last_where p (drop l.place l.marked) ≡ None)

abbrev pub decreases-back : goal.decreases-back
decreases-back g l = l.place
