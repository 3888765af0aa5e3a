use Rattle.std.proofs.Common.{◌≡◌, ◌+◌, ◌≤◌, ◌++◌, length, take}
use Rattle.tsn_encoding.specs.Pieces.{TakesFront}
use Rattle.tsn_encoding.specs.declared.shown.TheConstants.{LONGEST_ITEM, MOST_BEFORE_ITEM}
use Rattle.tsn_encoding.proofs.Pieces.{behind}
use Rattle.tsn_encoding.proofs.shown.write_listed.Given as goal

abbrev pub invariant-others : goal.invariant-others
invariant-others g l =
    (length l.text ≤ MOST_BEFORE_ITEM + 1 + LONGEST_ITEM)
    × TakesFront (g.W.ByteOut.taken l.initial.writer) (g.W.ByteOut.taken l.writer)
    (l.initial.text ++ behind g.I.ShownItem.shown (take l.item-index l.others)) l.text
    × (g.W.ByteOut.has_failed l.writer ≡ g.W.ByteOut.has_failed l.initial.writer)
