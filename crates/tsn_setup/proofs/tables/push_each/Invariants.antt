use Rattle.std.proofs.Common.{◌≡◌, drop}
use Rattle.toml.specs.View.{items_view}
use Rattle.tsn_records.specs.Answers.{each}
use Rattle.tsn_setup.specs.Tables.{table_shape, with_front}
use Rattle.tsn_setup.specs.Toml.{items_list}
use Rattle.tsn_setup.proofs.tables.push_each.Given as goal

abbrev pub invariant-values : goal.invariant-values
invariant-values l = with_front l.tables.items (each (table_shape l.kind) (items_list (items_view (drop l.value-index l.values))))
    ≡ with_front l.fn.tables.items (each (table_shape l.kind) (items_list (items_view l.values)))
