use Rattle.std.proofs.Common.{◌≡◌, ◌≤◌, true, arith, length}
use Rattle.std.proofs.lemmas.Grind.{common_steps}
use Rattle.tsn_edit.specs.Batches.{are_distinct, edited_keys}
use Rattle.tsn_edit.specs.Parts.{most_parts}
use Rattle.tsn_edit.proofs.Batched.{batch_of}
use Rattle.tsn_edit.proofs.batches.Batch.new.Goals as goal

pub invariant_of-result : goal.invariant_of-result
invariant_of-result c =
    let some : 1 ≤ length c.args.edits.items = grind (arith, common_steps) in
    let few : length c.args.edits.items ≤ most_parts = grind (arith, common_steps) in
    let distinct : are_distinct (edited_keys c.args.edits.items) ≡ true = grind (arith, common_steps) in
    batch_of c.args.edits.items some few distinct
