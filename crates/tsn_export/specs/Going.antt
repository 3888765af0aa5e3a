-- What the writing of a setup goes through: one record after another, and why it stops.
use Rattle.std.specs.Prelude.{◌≡◌, ◌⊎◌, ℕ, ◌<◌, List, [], length, filter, Option, Some, None, if◌then◌else◌}
use Rattle.tsn_types.specs.declared.keys.Key.{Key}
use Rattle.tsn_types.specs.declared.keys.Kind.{Kind}
use Rattle.tsn_types.specs.declared.records.Record.{Record}
use Rattle.tsn_types.specs.declared.refusals.Refusal.{Refusal}
use Rattle.tsn_types.specs.declared.refusals.Refusal.TheVariants.{Memory, TooLong}
use Rattle.tsn_config.specs.Ids.{is_of}
use Rattle.tsn_export.specs.Text.{is_default, longest_setup, table_text}

-- records with their keys
abbrev pub Entries : Type 0
Entries = List (Key × Record)

-- those of a kind, in their order
abbrev pub of_kind : Kind → Entries → Entries
of_kind which es = filter (λ e. is_of which e.0) es

-- the text of a record that is there: none for one that no setup names
abbrev pub entry_text : Key × Record → List ℕ
entry_text e = if is_default e.1 then [] else table_text e

-- the text of what there is at a key: none where there is nothing
abbrev pub text_of : (Key × Record → List ℕ) → Key → Option Record → List ℕ
text_of text k None = []
text_of text k (Some r) = text (k, r)

-- why nothing is written: want of memory, or a text that is longer than any that is read
abbrev pub Stops : List ℕ → Refusal → Type 0
Stops text why = (why ≡ Memory) ⊎ ((why ≡ TooLong) × (longest_setup < length text))
