use Rattle.std.proofs.Common.{◌≡◌, ◌+◌, ◌≤◌, ◌++◌, length, take}
use Rattle.json.specs.Print.{escape}
use Rattle.tsn_encoding.specs.Pieces.{TakesFront}
use Rattle.tsn_encoding.specs.declared.setup.TheConstants.{LONGEST_ESCAPE}
use Rattle.tsn_encoding.specs.declared.shown.TheConstants.{MOST_BEFORE_ITEM}
use Rattle.tsn_encoding.proofs.setup.write_setup.Given as goal

abbrev pub invariant-bytes : goal.invariant-bytes
invariant-bytes g l =
    (length l.text ≤ MOST_BEFORE_ITEM + LONGEST_ESCAPE)
    × TakesFront (g.W.ByteOut.taken l.initial.writer) (g.W.ByteOut.taken l.writer) (l.initial.text ++ escape (take l.byte-index l.setup))
    l.text
    × (g.W.ByteOut.has_failed l.writer ≡ g.W.ByteOut.has_failed l.initial.writer)
