-- What a command line says.
use Rattle.std.specs.Prelude.{ℕ, List, if◌then◌else◌, Option, Some, None, Result, Ok, Err}
use Rattle.std.specs.Str.{is_utf8}
use Rattle.serde_json.specs.Data.{Data}
use Rattle.serde_json.specs.Read.{read}
use Rattle.tsn_commands.specs.declared.command.Command.TheVariants as commands
use Rattle.tsn_commands.specs.Commands.{most_sessions}
use Rattle.tsn_types.specs.declared.refusals.Field.TheVariants as fields
use Rattle.tsn_types.specs.declared.refusals.Refusal.{Refusal}
use Rattle.tsn_records.specs.Answers.{◌>>=◌, or_syntax, refused}
use Rattle.tsn_wire.specs.Commands.{line_shape}
use Rattle.tsn_records.specs.Ranges.{within}
use Rattle.tsn_wire.specs.Ranges.{command_of_draft}
use Rattle.tsn_wire.specs.declared.drafts.LineDraft.{LineDraft}
use Rattle.tsn_wire.specs.declared.drafts.LineDraft.TheVariants.{Hello, Named, Session}
use Rattle.tsn_wire.specs.declared.drafts.NameDraft.{NameDraft}
use Rattle.tsn_wire.specs.declared.drafts.NameDraft.TheVariants.{Fit, Unfit}
use Rattle.tsn_commands.specs.declared.command.Ask.{Ask}
use Rattle.tsn_records.specs.declared.unread.Unread.{Unread}
use Rattle.tsn_records.specs.declared.unread.Unread.TheVariants.{Range}

-- the one JSON value that the bytes are; bytes that are no UTF-8 are none
abbrev pub data_of : List ℕ → Option Data
data_of bytes = if is_utf8 bytes then read bytes else None

-- the name, or that it may not be one
abbrev pub name_of_draft : NameDraft → Result (List ℕ) Unread
name_of_draft (Fit name) = Ok name
name_of_draft Unfit = Err (Range fields.Name)

-- sessions are numbered from 1; a hello has none, which is written 0
abbrev pub line_of_draft : LineDraft → Result Ask Unread
line_of_draft Hello = Ok (record { session = 0; command = commands.Hello None })
line_of_draft (Named name) = name_of_draft name >>= λ text. Ok (record { session = 0; command = commands.Hello (Some text) })
line_of_draft (Session s wanted) =
    within fields.S 1 most_sessions s >>= λ session. command_of_draft wanted >>= λ command.
    Ok (record { session = session; command = command })

-- syntax first, then the whole shape, then the ranges
abbrev pub reading : List ℕ → Result Ask Unread
reading bytes = or_syntax (data_of bytes) >>= λ d. line_shape d >>= λ draft. line_of_draft draft

-- what a line says, or why it is refused
abbrev pub line_of : List ℕ → Result Ask Refusal
line_of bytes = refused (reading bytes)
