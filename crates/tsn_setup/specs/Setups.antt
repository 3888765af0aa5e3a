-- What a document sets up.
use Rattle.std.specs.Prelude.{ℕ, nat_le, List, length, if◌then◌else◌, Option, None, option_map, Result, Ok, Err}
use Rattle.std.specs.Str.{is_utf8}
use Rattle.toml.specs.Data.{Data, table}
use Rattle.toml.specs.Parse.{parse_document}
use Rattle.tsn_types.specs.declared.refusals.Refusal.{Refusal}
use Rattle.tsn_types.specs.declared.refusals.Refusal.TheVariants.{TooLong}
use Rattle.tsn_config.specs.declared.setup.Setup.{Setup}
pub use Rattle.tsn_export.specs.Text.{longest_setup}
use Rattle.tsn_records.specs.Answers.{◌>>=◌, each, or_syntax, refused}
use Rattle.tsn_records.specs.Members.{setup_names}
use Rattle.tsn_records.specs.declared.unread.Unread.{Unread}
use Rattle.tsn_setup.specs.Ranges.{keyed_record, limits}
use Rattle.tsn_setup.specs.Tables.{limits_shape, tables_shape}
use Rattle.tsn_setup.specs.Toml.{has_only}
use Rattle.tsn_setup.specs.declared.drafts.LimitsDraft.{LimitsDraft}
use Rattle.tsn_setup.specs.declared.drafts.TableDraft.{TableDraft}

-- the one table that the bytes are; bytes that are no UTF-8 are none
abbrev pub document_of : List ℕ → Option Data
document_of text = if is_utf8 text then option_map table (parse_document text) else None

-- the whole shape: no members but these, the limits that are given, and the tables
unfoldable pub setup_shape : Data → Result (LimitsDraft × List TableDraft) Unread
setup_shape d = do
  _ ← has_only setup_names d
  given ← limits_shape d
  tables ← tables_shape d
  Ok (given, tables)

-- the ranges: those of the limits before those of the tables
unfoldable pub setup_of_draft : LimitsDraft × List TableDraft → Result Setup Unread
setup_of_draft draft = do
  limits ← limits draft.0
  records ← each keyed_record draft.1
  Ok (record { limits = limits; records = records })

-- syntax first, then the whole shape, then the ranges
abbrev pub reading : List ℕ → Result Setup Unread
reading text = or_syntax (document_of text) >>= λ d. setup_shape d >>= λ draft. setup_of_draft draft

-- the setup of a document, or why it is refused
abbrev pub setup_of : List ℕ → Result Setup Refusal
setup_of text = if nat_le (length text) longest_setup then refused (reading text) else Err TooLong
