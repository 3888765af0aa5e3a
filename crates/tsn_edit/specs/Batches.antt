-- Batches: edits that are made at once. Why they are refused, what they make of a configuration, and their change.
use Rattle.std.specs.Prelude.{◌≤◌, Bool, true, ◌&&◌, not, ◌++◌, List, [], ◌∷◌, Option, Some, None, is_none, is_some, find, flat_map, length, map, nat_le, option_map, if◌then◌else◌}
use Rattle.std.specs.FinMap.{entries, get}
use Rattle.std.specs.List.{AllByRecursion, IsDistinct}
use Rattle.std.specs.Ordering.{is_lt}
use Rattle.tsn_types.specs.declared.keys.Key.{Key}
use Rattle.tsn_types.specs.declared.records.Record.{Record}
use Rattle.tsn_types.specs.declared.limits.Limits.{Limits}
use Rattle.tsn_types.specs.declared.refusals.Field.TheVariants.{Key as KeyField}
use Rattle.tsn_types.specs.declared.refusals.Refusal.{Refusal}
use Rattle.tsn_types.specs.declared.refusals.Refusal.TheVariants.{Exists, Missing, Range, Referred, Shape}
use Rattle.tsn_types.specs.Keys.{has, key_cmp, refs, same_key}
use Rattle.tsn_types.specs.Limits.{holds_key, unless}
use Rattle.tsn_types.specs.Refusals.{least}
use Rattle.tsn_edit.specs.declared.Edit.{Edit}
use Rattle.tsn_edit.specs.declared.Edit.TheVariants.{Create, Replace, Remove}
use Rattle.tsn_edit.specs.Configuration.{Configuration, put}
use Rattle.tsn_edit.specs.Edits.{EditInRange, dangling, is_port, limit_causes}
use Rattle.tsn_edit.specs.Parts.{Change, Part, most_parts}

-- the key of an edit, and the value that it puts there
abbrev pub key_of : Edit → Key
key_of (Create k r) = k
key_of (Replace k r) = k
key_of (Remove k) = k

abbrev pub value_of : Edit → Option Record
value_of (Create k r) = Some r
value_of (Replace k r) = Some r
value_of (Remove k) = None

abbrev pub edited_keys : List Edit → List Key
edited_keys b = map (λ e. key_of e) b

-- no key stands twice
abbrev pub are_distinct : List Key → Bool
are_distinct [] = true
are_distinct (k ∷ ks) = not (has ks k) && are_distinct ks

-- a batch is 1 to 16 edits, on distinct keys
abbrev pub is_batch : List Edit → Bool
is_batch b = nat_le 1 (length b) && (nat_le (length b) most_parts && are_distinct (edited_keys b))

pub record IsBatch (b : List Edit) : Type 0 where
  pub some : 1 ≤ length b
  pub few : length b ≤ most_parts
  pub distinct : IsDistinct same_key (edited_keys b)

-- the numbers of each edit's record are in their ranges
abbrev pub EditsInRange : List Edit → Type 0
EditsInRange b = AllByRecursion (λ e. EditInRange e) b

-- what all the edits at once make of c: each key with its record, or without one
abbrev pub result : Configuration → List Edit → Configuration
result c [] = c
result c (e ∷ es) = put (result c es) (key_of e) (value_of e)

-- the least filter that refers to the key, and on which the batch has no edit
abbrev pub referrer_beside : Configuration → List Edit → Key → Option Refusal
referrer_beside c b k = option_map (λ e. Referred e.0) (find (λ e. has (refs e.1) k && not (has (edited_keys b) e.0)) (entries c))

-- why an edit of the batch b is refused in c, in the order of numbers: beside the limits its key is absent or present in
-- c, what its record refers to is absent once all edits are made, a filter that the batch leaves refers to its key; and a
-- port is never removed
abbrev pub causes : Limits → Configuration → List Edit → Edit → List (Option Refusal)
causes l c b (Create k r) = limit_causes l k r ++ (unless (is_none (get c k)) (Exists k) ∷ dangling (result c b) r ∷ [])
causes l c b (Replace k r) = limit_causes l k r ++ (unless (is_some (get c k)) (Missing k) ∷ dangling (result c b) r ∷ [])
causes l c b (Remove k) = unless (not (is_port k)) Shape ∷ unless (holds_key l k) (Range KeyField) ∷ unless (is_some (get c k)) (Missing k)
    ∷ referrer_beside c b k ∷ []

-- the cause of the least number, and of several of that number the first in the batch's order; a batch is admitted where there is none
abbrev pub refusal : Limits → Configuration → List Edit → Option Refusal
refusal l c b = least (flat_map (λ e. causes l c b e) b)

-- an edit's part: its key's value in c before, and what the edit puts there after
abbrev pub part_in : Configuration → Edit → Part
part_in c e = record { key = key_of e; before = get c (key_of e); after = value_of e }

-- the parts with one more, ahead of those of greater keys
abbrev pub with_part : Part → List Part → List Part
with_part p [] = p ∷ []
with_part p (q ∷ qs) = if is_lt (key_cmp p.key q.key) then p ∷ q ∷ qs else (q ∷ with_part p qs)

abbrev pub in_key_order : List Part → List Part
in_key_order [] = []
in_key_order (p ∷ ps) = with_part p (in_key_order ps)

-- a part for each edit, in the order of keys
abbrev pub change_of : Configuration → List Edit → Change
change_of c b = in_key_order (map (λ e. part_in c e) b)
