-- The members of a line have the shape of the line's draft.
use Rattle.std.proofs.Common.{◌≡◌, ℕ, List, [], ◌∷◌, map, true, Result, Some, Ok, codes, refl, subst}
use Rattle.std.specs.List.{AllByRecursion}
use Rattle.serde_json.specs.Data.{Data, object}
use Rattle.serde_json.specs.View.{items_of}
use Rattle.tsn_types.specs.declared.keys.Kind.{Kind}
use Rattle.tsn_types.specs.declared.keys.Kind.TheVariants as kinds
use Rattle.tsn_records.specs.Answers.{each}
use Rattle.tsn_records.specs.Json.{items_list, as_json}
use Rattle.tsn_records.specs.Keys.{kind_of, kind_text}
use Rattle.tsn_records.specs.Records.{port_entry_shape, gate_entry_shape, member_shape, members_shape, record_shape}
use Rattle.tsn_records.specs.Values.{kind_of_draft, values_of}
use Rattle.tsn_records.specs.declared.drafts.PortEntryDraft.{PortEntryDraft}
use Rattle.tsn_records.specs.declared.drafts.GateEntryDraft.{GateEntryDraft}
use Rattle.tsn_records.specs.declared.drafts.KeyDraft.{KeyDraft}
use Rattle.tsn_records.specs.declared.drafts.RecordDraft.{RecordDraft}
use Rattle.tsn_records.specs.declared.drafts.RecordDraft.TheVariants as records
use Rattle.tsn_records.specs.declared.unread.Unread.{Unread}
use Rattle.tsn_wire.specs.Commands.{line_shape, command_shape, listed_at, keyed_record, removed_key, edit_shape, batch_shape, frame_members, frame_shape}
use Rattle.tsn_wire.specs.Batches.{is_batch_draft}
use Rattle.tsn_wire.specs.Lines.{command_members, IsOf, IsSound, IsSoundEdit}
use Rattle.tsn_wire.specs.Spelled.{IsKey, batch_value, drafted_text, edit_value}
use Rattle.tsn_records.specs.Shown.{draft_data, gate_entry_value, port_entry_value}
use Rattle.tsn_wire.specs.Values.{act_data, batched_data, edit_data, put_data, states_data, MayHaveList}
use Rattle.tsn_wire.specs.declared.drafts.CommandDraft.{CommandDraft}
use Rattle.tsn_wire.specs.declared.drafts.CommandDraft.TheVariants.{Edit, Batch, Settle, Act, Frame, States, Look, List as ListKind, Since, Bare}
use Rattle.tsn_wire.specs.declared.drafts.EditDraft.{EditDraft}
use Rattle.tsn_wire.specs.declared.drafts.EditDraft.TheVariants as drafts
use Rattle.tsn_wire.specs.declared.drafts.LineDraft.TheVariants.{Session}
use Rattle.tsn_wire.specs.declared.words.Word.TheVariants as words
use Rattle.tsn_wire.specs.Words.{act_word, put_word}
use Rattle.tsn_wire.proofs.OfWords.{of_word}
use Rattle.tsn_records.proofs.Shapes.{record_shaped}
use Rattle.tsn_wire.proofs.ReadingBack.{key_spelled, removable_back, listed_back, whole_or_null_back}

-- ---- records

shaped_items : {E : Type 0} (shape : Data → Result E Unread) (f : E → Data) → ((e : E) → shape (f e) ≡ Ok e) → (es : List E)
    → each shape (items_list (items_of (map f es))) ≡ Ok es
shaped_items shape f one [] = refl
shaped_items shape f one (e ∷ es) = rw (one e, shaped_items shape f one es) refl

port_entry_shaped : (e : PortEntryDraft) → port_entry_shape as_json (port_entry_value e) ≡ Ok e
unfolding port_entry_shape
port_entry_shaped e = refl

gate_entry_shaped : (e : GateEntryDraft) → gate_entry_shape as_json (gate_entry_value e) ≡ Ok e
unfolding gate_entry_shape
gate_entry_shaped e = simp whole_or_null_back

-- the members of a record have the shapes that the table wants
members_kept : (r : RecordDraft) → members_shape as_json (kind_of_draft r) (draft_data r) ≡ Ok (values_of r)
unfolding member_shape
members_kept (records.Port r) = rw (shaped_items (port_entry_shape as_json) port_entry_value port_entry_shaped r.admin.list) refl
members_kept (records.Filter r) =
    rw (whole_or_null_back r.handle, whole_or_null_back r.priority, whole_or_null_back r.max_sdu, whole_or_null_back r.meter) refl
members_kept (records.Gate r) =
    rw (whole_or_null_back r.ipv, shaped_items (gate_entry_shape as_json) gate_entry_value gate_entry_shaped r.admin.list) refl
members_kept (records.Meter r) = refl

only_kept : (r : RecordDraft) → as_json.only (kind_of_draft r) (draft_data r) ≡ Ok tt
only_kept (records.Port r) = refl
only_kept r = refl

of_kind : (k : Kind) (r : RecordDraft) → IsOf k r → kind_of_draft r ≡ k
of_kind kinds.Port (records.Port r) of = refl
of_kind kinds.Filter (records.Filter r) of = refl
of_kind kinds.Gate (records.Gate r) of = refl
of_kind kinds.Meter (records.Meter r) of = refl
of_kind k r of = absurd of

-- the value of a record of that kind
pub record_kept : (k : Kind) (r : RecordDraft) → IsOf k r → record_shape as_json k (draft_data r) ≡ Ok r
record_kept k r of =
    let is = of_kind k r of in
    subst (λ q. record_shape as_json q (draft_data r) ≡ Ok r) is
    (record_shaped as_json (kind_of_draft r) (draft_data r) r (record { only = only_kept r; of = refl; members = members_kept r }))

-- ---- commands

edit_shaped : (word : List ℕ) (s : ℕ) (key : KeyDraft) (v : RecordDraft) → IsKey key → IsOf key.kind v
    → keyed_record 4 (edit_data word s (drafted_text key) (draft_data v)) ≡ Ok (key, v)
unfolding keyed_record
edit_shaped word s key v k of = rw (key_spelled key k, record_kept key.kind v of) refl

act_shaped : (word : List ℕ) (s : ℕ) (key : KeyDraft) (now : ℕ) → IsKey key → MayHaveList key.kind
    → listed_at (codes "now") (act_data word s (drafted_text key) now) ≡ Ok (key, now)
unfolding listed_at
act_shaped word s key now k has = rw (key_spelled key k, listed_back key key.kind has) refl

look_shaped : (s : ℕ) (key : KeyDraft) (at : ℕ) → IsKey key → MayHaveList key.kind
    → listed_at (codes "at") (states_data s (drafted_text key) at) ≡ Ok (key, at)
unfolding listed_at
look_shaped s key at k has = rw (key_spelled key k, listed_back key key.kind has) refl

kind_spelled : (k : Kind) → kind_of (kind_text k) ≡ Some k
kind_spelled kinds.Port = refl
kind_spelled k = refl

put_kept : (word : List ℕ) (key : KeyDraft) (v : RecordDraft) → IsKey key → IsOf key.kind v
    → keyed_record 3 (put_data word (drafted_text key) (draft_data v))
    ≡ Ok (key, v)
unfolding keyed_record
put_kept word key v k of = rw (key_spelled key k, record_kept key.kind v of) refl

edit_kept : (e : EditDraft) → IsSoundEdit e → edit_shape (edit_value e) ≡ Ok e
unfolding edit_shape removed_key
edit_kept (drafts.Put put key v) kept = rw ((of_word (words.Put put)).found, put_kept (put_word put) key v kept.0 kept.1) refl
edit_kept (drafts.Remove key) kept = rw ((of_word words.Remove).found, key_spelled key kept.0, removable_back key key.kind kept.1) refl

edits_kept : (es : List EditDraft) → AllByRecursion IsSoundEdit es → each edit_shape (items_list (items_of (map edit_value es))) ≡ Ok es
edits_kept [] kept = refl
edits_kept (e ∷ es) kept = rw (edit_kept e kept.0, edits_kept es kept.1) refl

pub batch_kept : (s : ℕ) (es : List EditDraft) → is_batch_draft es ≡ true → AllByRecursion IsSoundEdit es
    → line_shape (batched_data s (batch_value es)) ≡ Ok (Session s (Batch es))
unfolding line_shape command_shape batch_shape
batch_kept s es batch kept = rw ((of_word words.Batch).found, edits_kept es kept, batch) refl

pub shaped : (s : ℕ) (command : CommandDraft) → IsSound command → line_shape (object (command_members s command)) ≡ Ok (Session s command)
unfolding line_shape command_shape removed_key frame_members frame_shape
shaped s (Edit (drafts.Put put key v)) (k, of) = rw ((of_word (words.Put put)).found, edit_shaped (put_word put) s key v k of) refl
shaped s (Edit (drafts.Remove key)) (k, may) = rw ((of_word words.Remove).found, key_spelled key k, removable_back key key.kind may) refl
shaped s (Batch batch) sound = batch_kept s batch sound.0 sound.1
shaped s (Act act key now) (k, has) = rw ((of_word (words.Act act)).found, act_shaped (act_word act) s key now k has) refl
shaped s (States key at) (k, has) = rw ((of_word words.States).found, look_shaped s key at k has) refl
shaped s (Look look key) k = rw ((of_word (words.Look look)).found, key_spelled key k) refl
shaped s (ListKind kind) sound = rw ((of_word words.List).found, kind_spelled kind) refl
shaped s (Frame f now) sound = rw ((of_word words.Frame).found) refl
shaped s (Since after) sound = rw ((of_word words.Since).found) refl
shaped s (Settle upto) sound = rw ((of_word words.Settle).found) refl
shaped s (Bare bare) sound = rw ((of_word (words.Bare bare)).found) refl
