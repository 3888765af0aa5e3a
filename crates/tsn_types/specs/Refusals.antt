-- The numbers and names of refusals, the least of several, and the names of members.
use Rattle.std.specs.Prelude.{◌≡◌, ℕ, List, [], ◌∷◌, Option, Some, None, nat_lt, if◌then◌else◌, codes}
use Rattle.tsn_types.specs.declared.refusals.Field.{Field}
use Rattle.tsn_types.specs.declared.refusals.Field.TheVariants as fields
use Rattle.tsn_types.specs.declared.refusals.Refusal.{Refusal}
use Rattle.tsn_types.specs.declared.refusals.Refusal.TheVariants as refusals

-- a refusal's number in a reply
abbrev pub number_of : Refusal → ℕ
number_of refusals.TooLong = 1
number_of refusals.Syntax = 2
number_of refusals.Shape = 3
number_of (refusals.Range a) = 4
number_of refusals.NoSession = 5
number_of (refusals.Missing a) = 6
number_of (refusals.Exists a) = 7
number_of (refusals.Dangling a) = 8
number_of (refusals.Referred a) = 9
number_of refusals.NothingToUndo = 10
number_of (refusals.Conflict a b) = 11
number_of refusals.NothingToRedo = 12
number_of (refusals.RedoConflict a) = 13
number_of refusals.NotEnabled = 14
number_of refusals.EmptyList = 15
number_of refusals.Past = 16
number_of refusals.JournalFull = 17
number_of refusals.Memory = 18
number_of (refusals.Settled a) = 19

-- the place of a cause in the order in which causes are tested: 1 to 16 by their numbers, then 19, 17 and 18
abbrev pub rank_of : Refusal → ℕ
rank_of (refusals.Settled a) = 17
rank_of refusals.JournalFull = 18
rank_of refusals.Memory = 19
rank_of why = number_of why

-- of two causes the one of the lesser rank, and of two with one rank the first
abbrev pub lesser : Option Refusal → Option Refusal → Option Refusal
lesser None b = b
lesser (Some a) None = Some a
lesser (Some a) (Some b) = if nat_lt (rank_of b) (rank_of a) then Some b else Some a

-- of several causes the one of the least rank, if there is any
abbrev pub least : List (Option Refusal) → Option Refusal
least [] = None
least (o ∷ os) = lesser o (least os)

-- a call is refused by its least cause, or for want of memory where there is none
abbrev pub IsLeastOrMemory : Option Refusal → Refusal → Type 0
IsLeastOrMemory None why = why ≡ refusals.Memory
IsLeastOrMemory (Some cause) why = why ≡ cause

-- a refusal's name in a reply
abbrev pub name_of : Refusal → List ℕ
name_of refusals.TooLong = codes "too_long"
name_of refusals.Syntax = codes "syntax"
name_of refusals.Shape = codes "shape"
name_of (refusals.Range a) = codes "range"
name_of refusals.NoSession = codes "no_session"
name_of (refusals.Missing a) = codes "missing"
name_of (refusals.Exists a) = codes "exists"
name_of (refusals.Dangling a) = codes "dangling"
name_of (refusals.Referred a) = codes "referred"
name_of refusals.NothingToUndo = codes "nothing_to_undo"
name_of (refusals.Conflict a b) = codes "conflict"
name_of refusals.NothingToRedo = codes "nothing_to_redo"
name_of (refusals.RedoConflict a) = codes "redo_conflict"
name_of refusals.NotEnabled = codes "not_enabled"
name_of refusals.EmptyList = codes "empty_list"
name_of refusals.Past = codes "past"
name_of refusals.JournalFull = codes "journal_full"
name_of refusals.Memory = codes "memory"
name_of (refusals.Settled a) = codes "settled"

-- a member's name in a command or a setup
abbrev pub field_name : Field → List ℕ
field_name fields.S = codes "s"
field_name fields.Session = codes "session"
field_name fields.Name = codes "name"
field_name fields.Key = codes "key"
field_name fields.Gates = codes "gates"
field_name fields.List = codes "list"
field_name fields.Cycle = codes "cycle"
field_name fields.Extension = codes "extension"
field_name fields.Base = codes "base"
field_name fields.Ipv = codes "ipv"
field_name fields.Handle = codes "handle"
field_name fields.Priority = codes "priority"
field_name fields.Gate = codes "gate"
field_name fields.MaxSdu = codes "max_sdu"
field_name fields.Meter = codes "meter"
field_name fields.Cir = codes "cir"
field_name fields.Cbs = codes "cbs"
field_name fields.Eir = codes "eir"
field_name fields.Ebs = codes "ebs"
field_name fields.Octets = codes "octets"
field_name fields.Now = codes "now"
field_name fields.At = codes "at"
field_name fields.After = codes "after"
field_name fields.Upto = codes "upto"
field_name fields.Id = codes "id"
field_name fields.Ports = codes "ports"
field_name fields.MaxFilters = codes "max_filters"
field_name fields.MaxGates = codes "max_gates"
field_name fields.MaxMeters = codes "max_meters"
field_name fields.ListMax = codes "list_max"
