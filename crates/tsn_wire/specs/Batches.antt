-- The edits of a batch, as a line names them. Their keys are told apart as they are written, also where a number is out of
-- its range.
use Rattle.std.specs.Prelude.{ℕ, Bool, true, ◌&&◌, ◌==◌, not, List, [], ◌∷◌, length, map, nat_le, if◌then◌else◌, Result, Ok, Err}
use Rattle.std.specs.List.{list_any}
use Rattle.tsn_edit.specs.Parts.{most_parts}
use Rattle.tsn_types.specs.declared.keys.Kind.{Kind}
use Rattle.tsn_types.specs.declared.keys.Kind.TheVariants as kinds
use Rattle.tsn_records.specs.declared.drafts.KeyDraft.{KeyDraft}
use Rattle.tsn_records.specs.declared.unread.Unread.{Unread}
use Rattle.tsn_records.specs.declared.unread.Unread.TheVariants.{Shape}
use Rattle.tsn_wire.specs.declared.drafts.EditDraft.{EditDraft}
use Rattle.tsn_wire.specs.declared.drafts.EditDraft.TheVariants.{Put, Remove}

-- the key of an edit
abbrev pub drafted_key : EditDraft → KeyDraft
drafted_key (Put put k r) = k
drafted_key (Remove k) = k

abbrev pub drafted_keys : List EditDraft → List KeyDraft
drafted_keys es = map (λ e. drafted_key e) es

-- the place of a kind: port, filter, gate, meter
abbrev pub place_of : Kind → ℕ
place_of kinds.Port = 0
place_of kinds.Filter = 1
place_of kinds.Gate = 2
place_of kinds.Meter = 3

-- whether two keys are the same
abbrev pub same_draft : KeyDraft → KeyDraft → Bool
same_draft k l = place_of k.kind == place_of l.kind && k.number == l.number

-- whether a list has a key
abbrev pub has_draft : List KeyDraft → KeyDraft → Bool
has_draft ks k = list_any (same_draft k) ks

-- no key stands twice
abbrev pub drafts_are_distinct : List KeyDraft → Bool
drafts_are_distinct [] = true
drafts_are_distinct (k ∷ ks) = not (has_draft ks k) && drafts_are_distinct ks

-- 1 to 16 edits, on distinct keys
abbrev pub is_batch_draft : List EditDraft → Bool
is_batch_draft es = nat_le 1 (length es) && (nat_le (length es) most_parts && drafts_are_distinct (drafted_keys es))

-- the edits of a batch; edits that are none are a fault of shape
abbrev pub batch_of : List EditDraft → Result (List EditDraft) Unread
batch_of es = if is_batch_draft es then Ok es else Err Shape
