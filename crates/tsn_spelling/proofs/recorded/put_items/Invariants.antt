use Rattle.tsn_spelling.proofs.Records.{SoFar}
use Rattle.tsn_spelling.proofs.recorded.put_items.Given as goal

abbrev pub invariant-others : goal.invariant-others
invariant-others g l = SoFar g.I.ShownItem.shown l.others l.item-index l.initial.line.items l.initial.text l.line.items l.text
