-- The value of a command: what a line is that asks for it. A value holds each member once, in ascending order of the
-- names, whatever their order in the line; so two lines with the same members, each of the same value, are one value.
use Rattle.std.specs.Prelude.{◌≡◌, ◌↔◌, ℕ, ◌≤◌, Bool, true, List, Option, Some, None, Ok, codes, ⊤}
use Rattle.std.specs.List.{AllByRecursion}
use Rattle.serde_json.specs.Data.{Data, boolean, string, object, member, no_members}
use Rattle.tsn_commands.specs.declared.command.Command.{Command}
use Rattle.tsn_commands.specs.declared.command.Command.TheVariants.{Hello, Create, Replace, Remove, Batch, Undo, UndoAll, Redo, Settle, Enable, Disable, Apply, Frame as FrameIn, States, Counters, Show, List as ListKind, Since, Resume, Sessions, Setup}
use Rattle.tsn_commands.specs.Commands.{most_sessions}
use Rattle.tsn_chain.specs.declared.frame.Frame.{Frame}
use Rattle.tsn_edit.specs.Batches.{IsBatch}
use Rattle.tsn_edit.specs.declared.Edit.{Edit}
use Rattle.tsn_edit.specs.declared.Edit.TheVariants as edits
use Rattle.tsn_types.specs.declared.keys.Key.{Key}
use Rattle.tsn_types.specs.declared.keys.Key.TheVariants.{Port, Filter, Gate, Meter}
use Rattle.tsn_types.specs.declared.keys.Kind.{Kind}
use Rattle.tsn_types.specs.declared.keys.Kind.TheVariants as kinds
use Rattle.tsn_types.specs.InRange.{KeyedInRange}
use Rattle.tsn_types.specs.Names.{is_name}
use Rattle.tsn_types.specs.Keys.{kind}
use Rattle.tsn_types.specs.Numbers.{Within, IsHandle, IsInstanceId, IsInstant, IsPortId, IsPriority}
use Rattle.tsn_records.specs.Keys.{key_text, kind_text}
use Rattle.tsn_wire.specs.Ranges.{greatest_after, longest_frame}
use Rattle.tsn_wire.specs.Reading.{data_of, line_of}
use Rattle.tsn_records.specs.Shown.{list_array, whole_data, record_data}

-- `{"do":WORD,"s":S}`
abbrev pub bare_data : List ℕ → ℕ → Data
bare_data word s = object (member (codes "do") (string word) (member (codes "s") (whole_data s) no_members))

-- `{"do":WORD,"key":K,"s":S}`
abbrev pub keyed_data : List ℕ → ℕ → List ℕ → Data
keyed_data word s key =
    object (member (codes "do") (string word) (member (codes "key") (string key) (member (codes "s") (whole_data s) no_members)))

-- `{"do":WORD,"key":K,"record":R,"s":S}`
abbrev pub edit_data : List ℕ → ℕ → List ℕ → Data → Data
edit_data word s key value =
    object (member (codes "do") (string word)
    (member (codes "key") (string key)
    (member (codes "record") value
    (member (codes "s") (whole_data s) no_members))))

-- `{"do":WORD,"key":K,"record":R}` and `{"do":"remove","key":K}`
abbrev pub put_data : List ℕ → List ℕ → Data → Data
put_data word key value =
    object (member (codes "do") (string word) (member (codes "key") (string key) (member (codes "record") value no_members)))

abbrev pub removal_data : List ℕ → Data
removal_data key = object (member (codes "do") (string (codes "remove")) (member (codes "key") (string key) no_members))

-- the value of an edit of a batch
abbrev pub edit_value : Edit → Data
edit_value (edits.Create k r) = put_data (codes "create") (key_text k) (record_data r)
edit_value (edits.Replace k r) = put_data (codes "replace") (key_text k) (record_data r)
edit_value (edits.Remove k) = removal_data (key_text k)

-- `{"do":"batch","edits":[..],"s":S}`
abbrev pub batched_data : ℕ → Data → Data
batched_data s listed =
    object (member (codes "do") (string (codes "batch")) (member (codes "edits") listed (member (codes "s") (whole_data s) no_members)))

-- the edits in their order
abbrev pub batch_data : ℕ → List Edit → Data
batch_data s b = batched_data s (list_array edit_value b)

-- `{"do":WORD,"key":K,"now":A,"s":S}`
abbrev pub act_data : List ℕ → ℕ → List ℕ → ℕ → Data
act_data word s key now =
    object (member (codes "do") (string word)
    (member (codes "key") (string key)
    (member (codes "now") (whole_data now)
    (member (codes "s") (whole_data s) no_members))))

-- `{"do":"frame","handle":H,"now":A,"octets":O,"priority":Q,"s":S,"yellow":B}`
abbrev pub framed_data : ℕ → ℕ → ℕ → ℕ → Bool → ℕ → Data
framed_data s handle priority octets yellow now =
    object (member (codes "do") (string (codes "frame"))
    (member (codes "handle") (whole_data handle)
    (member (codes "now") (whole_data now)
    (member (codes "octets") (whole_data octets)
    (member (codes "priority") (whole_data priority)
    (member (codes "s") (whole_data s)
    (member (codes "yellow") (boolean yellow) no_members)))))))

abbrev pub frame_data : ℕ → Frame → ℕ → Data
frame_data s frame now = framed_data s frame.handle frame.priority frame.octets frame.yellow now

-- `{"at":A,"do":"states","key":K,"s":S}`
abbrev pub states_data : ℕ → List ℕ → ℕ → Data
states_data s key at =
    object (member (codes "at") (whole_data at)
    (member (codes "do") (string (codes "states"))
    (member (codes "key") (string key)
    (member (codes "s") (whole_data s) no_members))))

-- `{"do":"list","kind":N,"s":S}`
abbrev pub listed_data : ℕ → List ℕ → Data
listed_data s name = object (member (codes "do") (string (codes "list"))
    (member (codes "kind") (string name) (member (codes "s") (whole_data s) no_members)))

-- `{"after":N,"do":"since","s":S}`
abbrev pub asked_data : ℕ → ℕ → Data
asked_data s after = object (member (codes "after") (whole_data after)
    (member (codes "do") (string (codes "since")) (member (codes "s") (whole_data s) no_members)))

-- `{"do":"settle","s":S,"upto":U}`
abbrev pub settle_data : ℕ → ℕ → Data
settle_data s upto = object (member (codes "do") (string (codes "settle"))
    (member (codes "s") (whole_data s) (member (codes "upto") (whole_data upto) no_members)))

-- `{"do":"hello"}`, and `{"do":"hello","name":N}`
abbrev pub hello_data : Option (List ℕ) → Data
hello_data None = object (member (codes "do") (string (codes "hello")) no_members)
hello_data (Some name) = object (member (codes "do") (string (codes "hello")) (member (codes "name") (string name) no_members))

-- the value of a session's command, its record as it is shown; a hello names no session
abbrev pub value_of : ℕ → Command → Data
value_of s (Hello name) = hello_data name
value_of s (Create k r) = edit_data (codes "create") s (key_text k) (record_data r)
value_of s (Replace k r) = edit_data (codes "replace") s (key_text k) (record_data r)
value_of s (Remove k) = keyed_data (codes "remove") s (key_text k)
value_of s (Batch b) = batch_data s b
value_of s Undo = bare_data (codes "undo") s
value_of s UndoAll = bare_data (codes "undo_all") s
value_of s Redo = bare_data (codes "redo") s
value_of s (Settle upto) = settle_data s upto
value_of s (Enable k now) = act_data (codes "enable") s (key_text k) now
value_of s (Disable k now) = act_data (codes "disable") s (key_text k) now
value_of s (Apply k now) = act_data (codes "apply") s (key_text k) now
value_of s (FrameIn frame now) = frame_data s frame now
value_of s (States k at) = states_data s (key_text k) at
value_of s (Counters k) = keyed_data (codes "counters") s (key_text k)
value_of s (Show k) = keyed_data (codes "show") s (key_text k)
value_of s (ListKind k) = listed_data s (kind_text k)
value_of s (Since after) = asked_data s after
value_of s Resume = bare_data (codes "resume") s
value_of s Sessions = bare_data (codes "sessions") s
value_of s Setup = bare_data (codes "setup") s

-- a key whose number is in its range
abbrev pub KeyInRange : Key → Type 0
KeyInRange (Port n) = IsPortId n
KeyInRange (Filter n) = IsInstanceId n
KeyInRange (Gate n) = IsInstanceId n
KeyInRange (Meter n) = IsInstanceId n

-- ports and stream gates have a gate control list
abbrev pub MayHaveList : Kind → Type 0
MayHaveList kinds.Port = ⊤
MayHaveList kinds.Filter = ⊥
MayHaveList kinds.Gate = ⊤
MayHaveList kinds.Meter = ⊥

-- a port is never removed
abbrev pub IsNoPort : Kind → Type 0
IsNoPort kinds.Port = ⊥
IsNoPort q = ⊤

-- a key of a kind that has a list, and an instant
pub record ListInRange (k : Key) (a : ℕ) : Type 0 where
  pub key : KeyInRange k
  pub list : MayHaveList (kind k)
  pub instant : IsInstant a

-- a frame at an instant
pub record FrameInRange (f : Frame) (a : ℕ) : Type 0 where
  pub handle : IsHandle f.handle
  pub priority : IsPriority f.priority
  pub octets : f.octets ≤ longest_frame
  pub now : IsInstant a

-- sessions are numbered from 1
abbrev pub IsSession : ℕ → Type 0
IsSession s = Within 1 most_sessions s

-- an edit of a batch that may be asked
abbrev pub EditMayBeAsked : Edit → Type 0
EditMayBeAsked (edits.Create k r) = KeyedInRange k r
EditMayBeAsked (edits.Replace k r) = KeyedInRange k r
EditMayBeAsked (edits.Remove k) = KeyInRange k × IsNoPort (kind k)

-- what may be asked: every number in its range, a record of its key's kind, a port never removed, an act or a look only at what has a list,
-- a batch of 1 to 16 edits on distinct keys, a name that may be one; a hello has no session, which is written 0
abbrev pub MayBeAsked : ℕ → Command → Type 0
MayBeAsked s (Hello None) = s ≡ 0
MayBeAsked s (Hello (Some name)) = (s ≡ 0) × (is_name name ≡ true)
MayBeAsked s (Create k r) = IsSession s × KeyedInRange k r
MayBeAsked s (Replace k r) = IsSession s × KeyedInRange k r
MayBeAsked s (Remove k) = IsSession s × KeyInRange k × IsNoPort (kind k)
MayBeAsked s (Batch b) = IsSession s × IsBatch b × AllByRecursion EditMayBeAsked b
MayBeAsked s (Settle upto) = IsSession s × (upto ≤ greatest_after)
MayBeAsked s (Enable k now) = IsSession s × ListInRange k now
MayBeAsked s (Disable k now) = IsSession s × ListInRange k now
MayBeAsked s (Apply k now) = IsSession s × ListInRange k now
MayBeAsked s (FrameIn frame now) = IsSession s × FrameInRange frame now
MayBeAsked s (States k at) = IsSession s × ListInRange k at
MayBeAsked s (Counters k) = IsSession s × KeyInRange k
MayBeAsked s (Show k) = IsSession s × KeyInRange k
MayBeAsked s (Since after) = IsSession s × (after ≤ greatest_after)
MayBeAsked s command = IsSession s

-- A line is accepted as a command of a session exactly where that may be asked and the line is its value.
abbrev pub AcceptsValues : Type 0
AcceptsValues = (line : List ℕ) (s : ℕ) (command : Command) →
    (line_of line ≡ Ok (record { session = s; command = command })) ↔ (MayBeAsked s command × (data_of line ≡ Some (value_of s command)))
