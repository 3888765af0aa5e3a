use Rattle.tsn_wire.specs.Values.{edit_value}
use Rattle.tsn_spelling.proofs.Records.{SoFar}
use Rattle.tsn_spelling.proofs.edits.put_edits.Given as goal

abbrev pub invariant-others : goal.invariant-others
invariant-others l = SoFar edit_value l.others l.edit-index l.initial.line.items l.initial.text l.line.items l.text
