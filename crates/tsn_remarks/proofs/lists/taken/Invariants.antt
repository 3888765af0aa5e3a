use Rattle.std.proofs.Common.{◌≡◌, ◌≤◌, ◌*◌, take}
use Rattle.std.specs.List.{sum_by}
use Rattle.tsn_types.specs.Numbers.{longest_interval}
use Rattle.tsn_remarks.proofs.lists.taken.Given as goal

-- the intervals so far, none of them longer than the longest one
abbrev pub invariant-loop-entry : goal.invariant-loop-entry
invariant-loop-entry g l =
    (l.taken ≡ sum_by g.E.Timed.interval (take l.entry-index l.entries)) × (l.taken ≤ l.entry-index * longest_interval)
