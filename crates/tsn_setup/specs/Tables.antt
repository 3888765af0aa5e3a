-- The shapes of the tables of a setup: an identifier and a record, whose members stand in the same table; and the limits.
use Rattle.std.specs.Prelude.{List, [], ◌++◌, Option, Some, None, Result, Ok, codes}
use Rattle.toml.specs.Data.{Data, Items}
use Rattle.tsn_types.specs.declared.keys.Kind.{Kind}
use Rattle.tsn_types.specs.declared.keys.Kind.TheVariants as kinds
use Rattle.tsn_records.specs.Answers.{◌>>=◌, each}
use Rattle.tsn_records.specs.Keys.{kind_text}
use Rattle.tsn_records.specs.Records.{record_shape}
use Rattle.tsn_records.specs.declared.unread.Unread.{Unread}
use Rattle.tsn_setup.specs.Toml.{items_list, number_at, number_or_none_at, items_or_none_at, as_toml}
use Rattle.tsn_setup.specs.declared.drafts.LimitsDraft.{LimitsDraft}
use Rattle.tsn_setup.specs.declared.drafts.TableDraft.{TableDraft}

-- its identifier and its record
unfoldable pub table_shape : Kind → Data → Result TableDraft Unread
table_shape kind d = do
  id ← number_at (codes "id") d
  value ← record_shape as_toml kind d
  Ok (record { id = id; value = value })

-- more behind these
abbrev pub with_front : {A : Type 0} → List A → Result (List A) Unread → Result (List A) Unread
with_front front rest = rest >>= λ more. Ok (front ++ more)

-- none where there is no array
abbrev pub items_given : Option Items → List Data
items_given None = []
items_given (Some items) = items_list items

-- the tables of a kind in file order; where there is no such member there are none
unfoldable pub tables_of_kind : Kind → Data → Result (List TableDraft) Unread
tables_of_kind kind d = items_or_none_at (kind_text kind) d >>= λ items. each (table_shape kind) (items_given items)

-- the tables of all kinds
unfoldable pub tables_shape : Data → Result (List TableDraft) Unread
tables_shape d = do
  ports ← tables_of_kind kinds.Port d
  filters ← tables_of_kind kinds.Filter d
  gates ← tables_of_kind kinds.Gate d
  meters ← tables_of_kind kinds.Meter d
  Ok (ports ++ filters ++ gates ++ meters)

-- the limits, which may all be left out
unfoldable pub limits_shape : Data → Result LimitsDraft Unread
limits_shape d = do
  ports ← number_or_none_at (codes "ports") d
  max_filters ← number_or_none_at (codes "max_filters") d
  max_gates ← number_or_none_at (codes "max_gates") d
  max_meters ← number_or_none_at (codes "max_meters") d
  list_max ← number_or_none_at (codes "list_max") d
  Ok (record { ports = ports; max_filters = max_filters; max_gates = max_gates; max_meters = max_meters; list_max = list_max })
