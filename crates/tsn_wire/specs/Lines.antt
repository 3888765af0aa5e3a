-- The members of command lines.
use Rattle.std.specs.List.{AllByRecursion}
use Rattle.std.specs.Prelude.{◌≡◌, ℕ, [], ◌∷◌, None, option_map, codes, true, ⊤}
use Rattle.serde_json.specs.Data.{Data, boolean, string, Members, no_members}
use Rattle.tsn_types.specs.declared.keys.Kind.{Kind}
use Rattle.tsn_types.specs.declared.keys.Kind.TheVariants as kinds
use Rattle.tsn_records.specs.Json.{members_len}
use Rattle.tsn_records.specs.Keys.{kind_text}
use Rattle.tsn_records.specs.Shown.{draft_data, whole_data}
use Rattle.tsn_records.specs.declared.drafts.RecordDraft.{RecordDraft}
use Rattle.tsn_records.specs.declared.drafts.RecordDraft.TheVariants as records
use Rattle.tsn_wire.specs.Members.{Rows}
use Rattle.tsn_wire.specs.Batches.{is_batch_draft}
use Rattle.tsn_wire.specs.Rows.{AllTold, members_of}
use Rattle.tsn_wire.specs.Spelled.{batch_value, drafted_text, edit_value, key_value, IsKey}
use Rattle.tsn_wire.specs.Values.{act_data, asked_data, bare_data, batched_data, edit_data, framed_data, hello_data, keyed_data, listed_data, settle_data, states_data, IsNoPort, MayHaveList}
use Rattle.tsn_wire.specs.Words.{act_word, bare_word, look_word, put_word, word_text}
use Rattle.tsn_wire.specs.declared.gathered.EditMembers.{EditMembers}
use Rattle.tsn_wire.specs.declared.gathered.LineMembers.{LineMembers}
use Rattle.tsn_wire.specs.declared.drafts.CommandDraft.{CommandDraft}
use Rattle.tsn_wire.specs.declared.drafts.CommandDraft.TheVariants.{Edit, Batch, Settle, Act, Frame, States, Look, List as ListKind, Since, Bare}
use Rattle.tsn_wire.specs.declared.drafts.EditDraft.{EditDraft}
use Rattle.tsn_wire.specs.declared.drafts.EditDraft.TheVariants as edits
use Rattle.tsn_wire.specs.declared.drafts.LineDraft.{LineDraft}
use Rattle.tsn_wire.specs.declared.drafts.LineDraft.TheVariants.{Hello, Named, Session}

-- the names that a line may have, each with its value where that was read
abbrev pub line_rows : LineMembers → Rows
line_rows m =
    (codes "after", option_map whole_data m.after) ∷
    (codes "at", option_map whole_data m.at) ∷
    (codes "do", option_map (λ w. string (word_text w)) m.word) ∷
    (codes "edits", option_map batch_value m.edits) ∷
    (codes "handle", option_map whole_data m.handle) ∷
    (codes "key", option_map key_value m.key) ∷
    (codes "kind", option_map (λ k. string (kind_text k)) m.kind) ∷
    (codes "now", option_map whole_data m.instant) ∷
    (codes "octets", option_map whole_data m.octets) ∷
    (codes "priority", option_map whole_data m.priority) ∷
    (codes "record", option_map draft_data m.record) ∷
    (codes "s", option_map whole_data m.session) ∷
    (codes "upto", option_map whole_data m.upto) ∷
    (codes "yellow", option_map boolean m.yellow) ∷ []

-- the same of an edit of a batch
abbrev pub edit_rows : EditMembers → Rows
edit_rows m =
    (codes "do", option_map (λ w. string (word_text w)) m.word) ∷
    (codes "key", option_map key_value m.key) ∷
    (codes "record", option_map draft_data m.record) ∷ []

-- a record of that kind
abbrev pub IsOf : Kind → RecordDraft → Type 0
IsOf kinds.Port (records.Port r) = ⊤
IsOf kinds.Filter (records.Filter r) = ⊤
IsOf kinds.Gate (records.Gate r) = ⊤
IsOf kinds.Meter (records.Meter r) = ⊤
IsOf k r = ⊥

-- the value of a session's command, whatever its numbers
abbrev pub draft_value : ℕ → CommandDraft → Data
draft_value s (Edit (edits.Put put key value)) = edit_data (put_word put) s (drafted_text key) (draft_data value)
draft_value s (Edit (edits.Remove key)) = keyed_data (codes "remove") s (drafted_text key)
draft_value s (Batch batch) = batched_data s (batch_value batch)
draft_value s (Settle upto) = settle_data s upto
draft_value s (Act act key now) = act_data (act_word act) s (drafted_text key) now
draft_value s (Frame f now) = framed_data s f.handle f.priority f.octets f.yellow now
draft_value s (States key at) = states_data s (drafted_text key) at
draft_value s (Look look key) = keyed_data (look_word look) s (drafted_text key)
draft_value s (ListKind kind) = listed_data s (kind_text kind)
draft_value s (Since after) = asked_data s after
draft_value s (Bare bare) = bare_data (bare_word bare) s

-- the members of each line in ascending order of their names
abbrev pub command_members : ℕ → CommandDraft → Members
command_members s command = members_of (draft_value s command)

abbrev pub line_members : LineDraft → Members
line_members Hello = members_of (hello_data None)
line_members (Named name) = no_members
line_members (Session s command) = command_members s command

-- an edit of a batch, on a key that some table may have, whose record is of the key's kind
abbrev pub IsSoundEdit : EditDraft → Type 0
IsSoundEdit (edits.Put put key value) = IsKey key × IsOf key.kind value
IsSoundEdit (edits.Remove key) = IsKey key × IsNoPort key.kind

-- a key that some table may have, and what its kind must be; a hello by a name is not read so
abbrev pub IsSound : CommandDraft → Type 0
IsSound (Edit e) = IsSoundEdit e
IsSound (Batch batch) = (is_batch_draft batch ≡ true) × AllByRecursion IsSoundEdit batch
IsSound (Act act key now) = IsKey key × MayHaveList key.kind
IsSound (States key at) = IsKey key × MayHaveList key.kind
IsSound (Look look key) = IsKey key
IsSound command = ⊤

abbrev pub IsSoundLine : LineDraft → Type 0
IsSoundLine Hello = ⊤
IsSoundLine (Named name) = ⊥
IsSoundLine (Session s command) = IsSound command

-- so many members were read, which are just those of this line
pub record IsLine (rows : Rows) (count : ℕ) (draft : LineDraft) : Type 0 where
  pub told : AllTold rows (line_members draft)
  pub len : count ≡ members_len (line_members draft)
  pub sound : IsSoundLine draft

-- so many members were read, which are just those of this edit
pub record IsEdit (rows : Rows) (count : ℕ) (e : EditDraft) : Type 0 where
  pub told : AllTold rows (members_of (edit_value e))
  pub len : count ≡ members_len (members_of (edit_value e))
