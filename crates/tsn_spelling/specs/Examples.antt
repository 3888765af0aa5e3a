-- Worked examples: asks of session 1 and the records and edits in them.
use Rattle.std.specs.Prelude.{ℕ, List, [], ◌∷◌, ◌++◌, codes}
use Rattle.tsn_commands.specs.declared.command.Ask.{Ask}
use Rattle.tsn_commands.specs.declared.command.Command.{Command}
use Rattle.tsn_edit.specs.declared.Edit.{Edit}
use Rattle.tsn_edit.specs.declared.Edit.TheVariants as edits
use Rattle.tsn_types.specs.declared.keys.Key.TheVariants as keys
use Rattle.tsn_types.specs.declared.records.Record.TheVariants as records
use Rattle.tsn_types.specs.Examples.{a_filter, a_meter}

-- what session 1 asks
abbrev pub asked : Command → Ask
asked command = record { session = 1; command = command }

-- a meter is created, a filter replaced and a gate removed
abbrev pub three_edits : List Edit
three_edits =
    edits.Create (keys.Meter 0) (records.Meter a_meter) ∷
    edits.Replace (keys.Filter 3) (records.Filter a_filter) ∷
    edits.Remove (keys.Gate 0) ∷ []

-- the line that replaces a record by that of a text, in session 1, and such an edit of a batch
abbrev pub replace_line : List ℕ → List ℕ → List ℕ
replace_line key text = codes "{\"do\":\"replace\",\"key\":\"" ++ key ++ codes "\",\"record\":" ++ text ++ codes ",\"s\":1}"

abbrev pub replacement_text : List ℕ → List ℕ → List ℕ
replacement_text key text = codes "{\"do\":\"replace\",\"key\":\"" ++ key ++ codes "\",\"record\":" ++ text ++ codes "}"
