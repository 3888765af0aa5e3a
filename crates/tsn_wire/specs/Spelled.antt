-- Command lines in the service's compact spelling: no spaces, their members in ascending order of their names. A draft is
-- seen as the value that such a line is.
use Rattle.std.specs.Prelude.{◌≡◌, ℕ, ◌^◌, ◌<◌, ◌++◌, List, true, codes, IfSome}
use Rattle.std.specs.List.{AllByRecursion}
use Rattle.serde_json.specs.Data.{Data, string}
use Rattle.serde_json.specs.Written.{compact_text}
use Rattle.tsn_types.specs.declared.keys.Kind.{Kind}
use Rattle.tsn_types.specs.declared.keys.Kind.TheVariants as kinds
use Rattle.tsn_types.specs.Numbers.{IsInstanceId}
use Rattle.tsn_records.specs.Keys.{kind_text, spelled_key}
use Rattle.tsn_records.specs.Shown.{draft_data, list_array}
use Rattle.tsn_records.specs.declared.drafts.KeyDraft.{KeyDraft}
use Rattle.tsn_records.specs.declared.drafts.PortEntryDraft.{PortEntryDraft}
use Rattle.tsn_records.specs.declared.drafts.GateEntryDraft.{GateEntryDraft}
use Rattle.tsn_records.specs.declared.drafts.ScheduleDraft.{ScheduleDraft}
use Rattle.tsn_records.specs.declared.drafts.PortDraft.{PortDraft}
use Rattle.tsn_records.specs.declared.drafts.GateDraft.{GateDraft}
use Rattle.tsn_records.specs.declared.drafts.FilterDraft.{FilterDraft}
use Rattle.tsn_records.specs.declared.drafts.MeterDraft.{MeterDraft}
use Rattle.tsn_records.specs.declared.drafts.RecordDraft.{RecordDraft}
use Rattle.tsn_records.specs.declared.drafts.RecordDraft.TheVariants.{Port, Filter, Gate, Meter}
use Rattle.tsn_wire.specs.Batches.{is_batch_draft}
use Rattle.tsn_wire.specs.Values.{put_data, removal_data, IsNoPort}
use Rattle.tsn_wire.specs.Words.{bare_word, look_word, put_word}
use Rattle.tsn_wire.specs.declared.drafts.CommandDraft.{CommandDraft}
use Rattle.tsn_wire.specs.declared.drafts.EditDraft.{EditDraft}
use Rattle.tsn_wire.specs.declared.drafts.EditDraft.TheVariants as edits
use Rattle.tsn_wire.specs.declared.drafts.CommandDraft.TheVariants.{Edit, Batch, Look, List as ListKind, Bare}

-- a number that a line can hold
abbrev pub IsSmall : ℕ → Type 0
IsSmall n = n < 2 ^ 64

-- a number that no key is above
abbrev pub IsKey : KeyDraft → Type 0
IsKey k = IsInstanceId k.number

-- the text of a key, and the key as a value
abbrev pub drafted_text : KeyDraft → List ℕ
drafted_text k = spelled_key k.kind k.number

abbrev pub key_value : KeyDraft → Data
key_value k = string (drafted_text k)

-- an edit of a batch
abbrev pub edit_value : EditDraft → Data
edit_value (edits.Put put key value) = put_data (put_word put) (drafted_text key) (draft_data value)
edit_value (edits.Remove key) = removal_data (drafted_text key)

abbrev pub batch_value : List EditDraft → Data
batch_value es = list_array edit_value es

-- the numbers of each are such that a line can hold
pub record PortEntryIsSmall (e : PortEntryDraft) : Type 0 where
  pub gates : IsSmall e.gates
  pub interval : IsSmall e.interval

pub record GateEntryIsSmall (e : GateEntryDraft) : Type 0 where
  pub ipv : IfSome e.ipv IsSmall
  pub interval : IsSmall e.interval
  pub octets : IfSome e.octets IsSmall

pub record ScheduleIsSmall {E : Type 0} (P : E → Type 0) (s : ScheduleDraft E) : Type 0 where
  pub list : AllByRecursion P s.list
  pub cycle : IsSmall s.cycle
  pub extension : IsSmall s.extension
  pub base : IsSmall s.base

pub record PortIsSmall (r : PortDraft) : Type 0 where
  pub gates : IsSmall r.gates
  pub admin : ScheduleIsSmall PortEntryIsSmall r.admin

pub record GateIsSmall (r : GateDraft) : Type 0 where
  pub ipv : IfSome r.ipv IsSmall
  pub admin : ScheduleIsSmall GateEntryIsSmall r.admin

pub record FilterIsSmall (r : FilterDraft) : Type 0 where
  pub handle : IfSome r.handle IsSmall
  pub priority : IfSome r.priority IsSmall
  pub gate : IsSmall r.gate
  pub max_sdu : IfSome r.max_sdu IsSmall
  pub meter : IfSome r.meter IsSmall

pub record MeterIsSmall (r : MeterDraft) : Type 0 where
  pub cir : IsSmall r.cir
  pub cbs : IsSmall r.cbs
  pub eir : IsSmall r.eir
  pub ebs : IsSmall r.ebs

-- a record of that kind
abbrev pub RecordIsSmall : Kind → RecordDraft → Type 0
RecordIsSmall kinds.Port (Port r) = PortIsSmall r
RecordIsSmall kinds.Filter (Filter r) = FilterIsSmall r
RecordIsSmall kinds.Gate (Gate r) = GateIsSmall r
RecordIsSmall kinds.Meter (Meter r) = MeterIsSmall r
RecordIsSmall k r = ⊥

-- an edit whose key some table may have, and whose numbers are such
abbrev pub EditIsSmall : EditDraft → Type 0
EditIsSmall (edits.Put put key value) = IsKey key × RecordIsSmall key.kind value
EditIsSmall (edits.Remove key) = IsKey key × IsNoPort key.kind

-- a text that begins with an edit of a batch, and the rest after it
abbrev pub SpellsEdit : List ℕ → EditDraft → List ℕ → Type 0
SpellsEdit text e rest = EditIsSmall e × (text ≡ compact_text (edit_value e) ++ rest)

-- a text that begins with a key and its record, and the rest after them
abbrev pub SpellsRecord : List ℕ → KeyDraft → RecordDraft → List ℕ → Type 0
SpellsRecord text key value rest =
    IsKey key × RecordIsSmall key.kind value
    × (text ≡ spelled_key key.kind key.number ++ (codes "\",\"record\":" ++ (compact_text (draft_data value) ++ rest)))

-- the text begins with what follows `{"do":"` in an edit, up to its last member, and the rest comes after it
abbrev pub SpellsEdited : List ℕ → EditDraft → List ℕ → Type 0
SpellsEdited text (edits.Put put key value) rest =
    (behind : List ℕ) × (text ≡ put_word put ++ (codes "\",\"key\":\"" ++ behind)) × SpellsRecord behind key value rest
SpellsEdited text (edits.Remove key) rest =
    IsKey key × IsNoPort key.kind × (text ≡ codes "remove\",\"key\":\"" ++ (spelled_key key.kind key.number ++ (codes "\"" ++ rest)))

-- The text begins with what follows `{"do":"` in a command's line, up to `,"s":`, and the rest comes after it. Lines that
-- settle or act on a list are not read so, those that hand in a frame elsewhere, and those that look at states begin otherwise.
abbrev pub Spells : List ℕ → CommandDraft → List ℕ → Type 0
Spells text (Edit e) rest = SpellsEdited text e rest
Spells text (Batch batch) rest = (is_batch_draft batch ≡ true) × AllByRecursion EditIsSmall batch
    × (text ≡ codes "batch\",\"edits\":" ++ (compact_text (batch_value batch) ++ rest))
Spells text (Bare bare) rest = text ≡ bare_word bare ++ (codes "\"" ++ rest)
Spells text (Look look key) rest =
    IsKey key × (text ≡ look_word look ++ (codes "\",\"key\":\"" ++ (spelled_key key.kind key.number ++ (codes "\"" ++ rest))))
Spells text (ListKind kind) rest = text ≡ codes "list\",\"kind\":\"" ++ (kind_text kind ++ (codes "\"" ++ rest))
Spells text command rest = ⊥
