-- The shapes of commands: which members each has beside `do`, and of which kinds.
use Rattle.std.specs.Prelude.{List, ℕ, ◌+◌, if◌then◌else◌, Result, Ok, Err, codes}
use Rattle.serde_json.specs.Data.{Data}
use Rattle.tsn_types.specs.declared.keys.Kind.{Kind}
use Rattle.tsn_types.specs.declared.keys.Kind.TheVariants as kinds
use Rattle.tsn_types.specs.Names.{is_name}
use Rattle.tsn_records.specs.Answers.{◌>>=◌, each, or_shape}
use Rattle.tsn_records.specs.Json.{flag_at, has_members, items_at, items_list, as_json, number_at, text_at, value_at}
use Rattle.tsn_records.specs.Keys.{key_of, kind_of}
use Rattle.tsn_records.specs.Records.{record_shape}
use Rattle.tsn_records.specs.declared.drafts.KeyDraft.{KeyDraft}
use Rattle.tsn_records.specs.declared.drafts.RecordDraft.{RecordDraft}
use Rattle.tsn_wire.specs.Batches.{batch_of}
use Rattle.tsn_wire.specs.declared.drafts.CommandDraft.{CommandDraft}
use Rattle.tsn_wire.specs.declared.drafts.CommandDraft.TheVariants.{Edit, Batch, Settle, Act, Frame, States, Look, List as ListKind, Since, Bare}
use Rattle.tsn_wire.specs.declared.drafts.EditDraft.{EditDraft}
use Rattle.tsn_wire.specs.declared.drafts.EditDraft.TheVariants as edits
use Rattle.tsn_wire.specs.declared.drafts.FrameDraft.{FrameDraft}
use Rattle.tsn_wire.specs.declared.drafts.LineDraft.{LineDraft}
use Rattle.tsn_wire.specs.declared.drafts.LineDraft.TheVariants.{Hello, Named, Session}
use Rattle.tsn_wire.specs.declared.drafts.NameDraft.{NameDraft}
use Rattle.tsn_wire.specs.declared.drafts.NameDraft.TheVariants.{Fit, Unfit}
use Rattle.tsn_wire.specs.declared.words.Word.{Word}
use Rattle.tsn_wire.specs.declared.words.Word.TheVariants as words
use Rattle.tsn_wire.specs.Words.{word_of}
use Rattle.tsn_records.specs.declared.unread.Unread.{Unread}
use Rattle.tsn_records.specs.declared.unread.Unread.TheVariants.{Shape}

abbrev pub key_at : Data → Result KeyDraft Unread
key_at d = text_at (codes "key") d >>= λ text. or_shape (key_of text)

-- a port is never removed
abbrev pub removable : KeyDraft → Kind → Result KeyDraft Unread
removable key kinds.Port = Err Shape
removable key kind = Ok key

-- ports and stream gates have a gate control list
abbrev pub listed : KeyDraft → Kind → Result KeyDraft Unread
listed key kinds.Port = Ok key
listed key kinds.Filter = Err Shape
listed key kinds.Gate = Ok key
listed key kinds.Meter = Err Shape

-- `key`, of a kind that has a list, and an instant under a name
unfoldable pub listed_at : List ℕ → Data → Result (KeyDraft × ℕ) Unread
listed_at name d = do
  _ ← has_members 4 d
  named ← key_at d
  key ← listed named named.kind
  instant ← number_at name d
  Ok (key, instant)

-- so many members, of which two are `key` and `record`, a record of the key's kind
unfoldable pub keyed_record : ℕ → Data → Result (KeyDraft × RecordDraft) Unread
keyed_record n d =
    has_members n d >>= λ _. key_at d >>= λ key. value_at (codes "record") d >>= λ value. record_shape as_json key.kind value >>= λ r. Ok (key, r)

-- so many members, of which one is `key`, of a kind that can be removed
unfoldable pub removed_key : ℕ → Data → Result KeyDraft Unread
removed_key n d = has_members n d >>= λ _. key_at d >>= λ key. removable key key.kind

-- an edit, with so many members beside its own
abbrev pub edited_shape : ℕ → Word → Data → Result EditDraft Unread
edited_shape n (words.Put put) d = keyed_record (3 + n) d >>= λ p. Ok (edits.Put put p.0 p.1)
edited_shape n words.Remove d = removed_key (2 + n) d >>= λ key. Ok (edits.Remove key)
edited_shape n word d = Err Shape

-- an edit of a batch has the members of its line, but no session of its own
unfoldable pub edit_shape : Data → Result EditDraft Unread
edit_shape d = text_at (codes "do") d >>= λ text. or_shape (word_of text) >>= λ word. edited_shape 0 word d

-- `edits`: 1 to 16 of them, on distinct keys
unfoldable pub batch_shape : Data → Result CommandDraft Unread
batch_shape d = do
  _ ← has_members 3 d
  items ← items_at (codes "edits") d
  listed ← each edit_shape (items_list items)
  batch ← batch_of listed
  Ok (Batch batch)

-- a frame's own members
unfoldable pub frame_members : Data → Result FrameDraft Unread
frame_members d = do
  handle ← number_at (codes "handle") d
  priority ← number_at (codes "priority") d
  octets ← number_at (codes "octets") d
  yellow ← flag_at (codes "yellow") d
  Ok (record { handle = handle; priority = priority; octets = octets; yellow = yellow })

unfoldable pub frame_shape : Data → Result CommandDraft Unread
frame_shape d = do
  _ ← has_members 7 d
  frame ← frame_members d
  now ← number_at (codes "now") d
  Ok (Frame frame now)

-- the command of a word, with the members `do` and `s` counted; a hello names no session
unfoldable pub command_shape : Word → Data → Result CommandDraft Unread
command_shape words.Hello d = Err Shape
command_shape (words.Put put) d = edited_shape 1 (words.Put put) d >>= λ e. Ok (Edit e)
command_shape words.Remove d = edited_shape 1 words.Remove d >>= λ e. Ok (Edit e)
command_shape words.Batch d = batch_shape d
command_shape (words.Act act) d = listed_at (codes "now") d >>= λ p. Ok (Act act p.0 p.1)
command_shape words.Frame d = frame_shape d
command_shape words.States d = listed_at (codes "at") d >>= λ p. Ok (States p.0 p.1)
command_shape (words.Look look) d = has_members 3 d >>= λ _. key_at d >>= λ key. Ok (Look look key)
command_shape words.List d =
    has_members 3 d >>= λ _. text_at (codes "kind") d >>= λ text. or_shape (kind_of text) >>= λ kind. Ok (ListKind kind)
command_shape words.Since d = has_members 3 d >>= λ _. number_at (codes "after") d >>= λ after. Ok (Since after)
command_shape words.Settle d = has_members 3 d >>= λ _. number_at (codes "upto") d >>= λ upto. Ok (Settle upto)
command_shape (words.Bare bare) d = has_members 2 d >>= λ _. Ok (Bare bare)

-- a text that may be a name, or one that may not
abbrev pub name_draft : List ℕ → NameDraft
name_draft text = if is_name text then Fit text else Unfit

-- a hello that has a second member has `name`, a text
unfoldable pub named_shape : Data → Result LineDraft Unread
named_shape d = do
  _ ← has_members 2 d
  text ← text_at (codes "name") d
  Ok (Named (name_draft text))

abbrev pub bare_or_named : Result (Unit {0}) Unread → Data → Result LineDraft Unread
bare_or_named (Ok one) d = Ok Hello
bare_or_named (Err why) d = named_shape d

-- a hello has the one member `do`, or one more; any other command has `s` too
abbrev pub worded_shape : Word → Data → Result LineDraft Unread
worded_shape words.Hello d = bare_or_named (has_members 1 d) d
worded_shape word d = number_at (codes "s") d >>= λ session. command_shape word d >>= λ command. Ok (Session session command)

unfoldable pub line_shape : Data → Result LineDraft Unread
line_shape d = text_at (codes "do") d >>= λ text. or_shape (word_of text) >>= λ word. worded_shape word d
