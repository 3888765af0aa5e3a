use Rattle.std.proofs.Common.{◌≡◌, length, ◌≤◌}
use Rattle.std.specs.Io.KnownBytes.{Consumes}
use Rattle.tsn_export.specs.Text.{longest_setup}
use Rattle.tsn_failures.proofs.files.read_setup.Given as goal

-- the bytes so far were read, by calls that gave one at least and of which none failed, and they are no more than a setup has
abbrev pub invariant-loop-made : goal.invariant-loop-made
invariant-loop-made g l =
    Consumes (g.R.ByteIn.remaining l.initial.reader) (g.R.ByteIn.remaining l.reader) l.bytes.items
    × (l._made ≤ length l.bytes.items)
    × (length l.bytes.items ≤ longest_setup)
    × (g.R.ByteIn.has_failed l.reader ≡ g.R.ByteIn.has_failed l.initial.reader)
