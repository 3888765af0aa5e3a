use Rattle.std.proofs.Common.{◌≡◌, ℕ, List, [], Option}
use Rattle.tsn_resuming.specs.Standing.{IsFed}
use Rattle.tsn_resuming.proofs.resuming.find_first.Given as goal

-- all that was read was fed, and no line was given yet
abbrev pub invariant-loop-made : goal.invariant-loop-made
invariant-loop-made g l =
    ((before : Option (List ℕ)) → IsFed before (g.R.ByteIn.remaining l.initial.file) [] l.initial.reader
    → IsFed before (g.R.ByteIn.remaining l.file) [] l.reader)
    × (g.R.ByteIn.has_failed l.file ≡ g.R.ByteIn.has_failed l.initial.file)
