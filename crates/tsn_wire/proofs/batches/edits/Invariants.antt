use Rattle.std.proofs.Common.{◌≡◌, drop}
use Rattle.serde_json.specs.View.{items_view}
use Rattle.tsn_records.specs.Answers.{each}
use Rattle.tsn_records.specs.Json.{items_list}
use Rattle.tsn_records.proofs.Entries.{with_front}
use Rattle.tsn_wire.specs.Commands.{edit_shape}
use Rattle.tsn_wire.proofs.batches.edits.Given as goal

abbrev pub invariant-values : goal.invariant-values
invariant-values l = with_front l.edits.items (each edit_shape (items_list (items_view (drop l.value-index l.values)))) ≡ each edit_shape
    (items_list (items_view l.values))
