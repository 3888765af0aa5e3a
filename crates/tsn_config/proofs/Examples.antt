-- Worked examples of the definitions alone, with literals.
use Rattle.std.proofs.Common.{◌≡◌, ◌∙◌, ℕ, true, false, cond, List, [], ◌∷◌, refl, ap, Option, Some, None}
use Rattle.std.specs.Prelude.{find, option_map, replicate}
use Rattle.std.specs.FinMap.{empty, entries, entries-insert, from_entries, get, get-empty, get-from_entries, get-insert, get-remove, insert, put, remove}
use Rattle.tsn_types.specs.declared.keys.Key.{Key}
use Rattle.tsn_types.specs.declared.keys.Key.TheVariants.{Port, Filter, Gate, Meter}
use Rattle.tsn_types.specs.declared.records.GateEntry.{GateEntry}
use Rattle.tsn_types.specs.declared.records.Record.{Record}
use Rattle.tsn_types.specs.declared.records.Record.TheVariants.{Filter as FilterRecord, Gate as GateRecord, Meter as MeterRecord}
use Rattle.tsn_types.specs.declared.limits.Limits.{Limits}
use Rattle.tsn_types.specs.declared.refusals.Field.TheVariants as fields
use Rattle.tsn_types.specs.declared.refusals.Refusal.TheVariants.{Shape, Range, Missing, Exists, Dangling, Referred}
use Rattle.tsn_types.specs.Examples.{gate_with}
use Rattle.tsn_types.specs.Keys.{has, key_cmp, refs, same_key}
use Rattle.tsn_edit.specs.declared.Edit.TheVariants.{Create, Replace, Remove}
use Rattle.tsn_edit.specs.Configuration.{Configuration}
use Rattle.tsn_edit.specs.declared.Edit.{Edit}
use Rattle.tsn_edit.specs.Batches as batches
use Rattle.tsn_edit.specs.Edits.{referrer}
use Rattle.tsn_edit.proofs.Ordered.{batch_refusal-first, own_cause}
use Rattle.tsn_types.specs.declared.refusals.Refusal.{Refusal}
use Rattle.tsn_edit.proofs.KeyFacts.{keys_total}
use Rattle.tsn_config.specs.Opening.{default_port, default_ports, opening, opening_refusal}
use Rattle.tsn_types.proofs.Ordered.{lesser-none}
use Rattle.tsn_config.proofs.Listed.{from_sorted_list}

-- two ports, sixteen instances of each other kind, lists of up to sixteen entries
abbrev limits : Limits
limits = record { ports = 2; filters = 16; gates = 16; meters = 16; list = 16 }

abbrev gate_of : List GateEntry → Record
gate_of es = GateRecord (gate_with true false es 1000000)

abbrev gate : Record
gate = gate_of []

abbrev entry : GateEntry
entry = record { is_open = true; ipv = None; interval = 1; octets = None }

abbrev meter : Record
meter =
    MeterRecord (record { cir = 8000000; cbs = 1500; eir = 0; ebs = 0; cf = false; aware = false; drop_yellow = false; all_red = false })

abbrev filter : ℕ → Option ℕ → Record
filter g m = FilterRecord (record { handle = Some 7; priority = None; gate = g; max_sdu = Some 1500; meter = m; oversize = true })

-- both ports, filter 3 on gate 0 and meter 0
abbrev rows : List (Key × Record)
rows = (Port 1, default_port) ∷ (Port 2, default_port) ∷ (Filter 3, filter 0 (Some 0)) ∷ (Gate 0, gate) ∷ (Meter 0, meter) ∷ []

abbrev now : Configuration
now = from_entries rows

pub inserted : (c : Configuration) (k : Key) (r : Record) (q : Key) → get (insert c k r) q ≡ cond (same_key q k) (Some r) (get c q)
inserted = get-insert keys_total

pub none_at : (q : Key) → get (empty {X = Record} {R = key_cmp}) q ≡ None
none_at = get-empty key_cmp

pub listed : (c : Configuration) (k : Key) (r : Record) → entries (insert c k r) ≡ put key_cmp k r (entries c)
listed = entries-insert keys_total

pub none_listed : entries (empty {X = Record} {R = key_cmp}) ≡ []
none_listed = from_sorted_list [] refl

-- a single edit is a batch of one, and refused by the first of its causes
abbrev refusal : Limits → Configuration → Edit → Option Refusal
refusal l c e = batches.refusal l c (e ∷ [])

refusal-first : (l : Limits) (c : Configuration) (e : Edit) → refusal l c e ≡ own_cause l c (e ∷ []) e
refusal-first l c e = batch_refusal-first l c (e ∷ []) ∙ lesser-none (own_cause l c (e ∷ []) e)

gate_twice : refusal limits now (Create (Gate 0) gate) ≡ Some (Exists (Gate 0))
gate_twice = simp (inserted, none_at)

gate_beyond : (c : Configuration) → refusal limits c (Create (Gate 16) gate) ≡ Some (Range fields.Key)
gate_beyond c = refusal-first limits c (Create (Gate 16) gate)

list_beyond : (c : Configuration) → refusal limits c (Create (Gate 1) (gate_of (replicate 17 entry))) ≡ Some (Range fields.List)
list_beyond c = refusal-first limits c (Create (Gate 1) (gate_of (replicate 17 entry)))

longest_list : refusal limits now (Create (Gate 1) (gate_of (replicate 16 entry))) ≡ None
longest_list = simp (inserted, none_at)

reference_beyond : (c : Configuration) → refusal limits c (Create (Filter 4) (filter 16 None)) ≡ Some (Range fields.Gate)
reference_beyond c = refusal-first limits c (Create (Filter 4) (filter 16 None))

meter_beyond : (c : Configuration) → refusal limits c (Create (Filter 4) (filter 9 (Some 16))) ≡ Some (Range fields.Meter)
meter_beyond c = refusal-first limits c (Create (Filter 4) (filter 9 (Some 16)))

gate_absent : refusal limits now (Create (Filter 4) (filter 9 None)) ≡ Some (Dangling (Gate 9))
gate_absent = simp (inserted, none_at)

both_absent : refusal limits now (Create (Filter 4) (filter 9 (Some 9))) ≡ Some (Dangling (Gate 9))
both_absent = simp (inserted, none_at)

meter_absent : refusal limits now (Create (Filter 4) (filter 0 (Some 9))) ≡ Some (Dangling (Meter 9))
meter_absent = simp (inserted, none_at)

admitted : refusal limits now (Create (Filter 4) (filter 0 None)) ≡ None
admitted = simp (inserted, none_at)

replaced_by_itself : refusal limits now (Replace (Gate 0) gate) ≡ None
replaced_by_itself = simp (inserted, none_at)

replace_absent : refusal limits now (Replace (Meter 9) meter) ≡ Some (Missing (Meter 9))
replace_absent = simp (inserted, none_at)

remove_absent : refusal limits now (Remove (Gate 9)) ≡ Some (Missing (Gate 9))
remove_absent =
    let first : own_cause limits now (Remove (Gate 9) ∷ []) (Remove (Gate 9)) ≡ Some (Missing (Gate 9)) = simp (inserted, none_at) in
    refusal-first limits now (Remove (Gate 9)) ∙ first

-- a port is never removed, and one within the limits is there already
port_removed : (c : Configuration) → refusal limits c (Remove (Port 1)) ≡ Some Shape
port_removed c = refusal-first limits c (Remove (Port 1))

port_created : refusal limits now (Create (Port 1) default_port) ≡ Some (Exists (Port 1))
port_created = simp (inserted, none_at)

port_beyond : (c : Configuration) → refusal limits c (Create (Port 3) default_port) ≡ Some (Range fields.Key)
port_beyond c = refusal-first limits c (Create (Port 3) default_port)

other_kind : (c : Configuration) → refusal limits c (Create (Gate 16) meter) ≡ Some Shape
other_kind c = refusal-first limits c (Create (Gate 16) meter)

-- a key in use is not removed; of filters that use it the least is named
gate_in_use : referrer now (Gate 0) ≡ Some (Referred (Filter 3))
gate_in_use =
    ap (λ es. option_map (λ (e : Key × Record). Referred e.0) (find (λ e. has (refs e.1) (Gate 0)) es)) (from_sorted_list rows refl)

meter_in_use : referrer now (Meter 0) ≡ Some (Referred (Filter 3))
meter_in_use =
    ap (λ es. option_map (λ (e : Key × Record). Referred e.0) (find (λ e. has (refs e.1) (Meter 0)) es)) (from_sorted_list rows refl)

gate_removed : refusal limits now (Remove (Gate 0)) ≡ Some (Referred (Filter 3))
gate_removed = simp (inserted, none_at, listed, none_listed)

abbrev shared : List (Key × Record)
shared = (Filter 3, filter 0 None) ∷ (Filter 5, filter 0 None) ∷ (Gate 0, gate) ∷ []

least_user : referrer (from_entries shared) (Gate 0) ≡ Some (Referred (Filter 3))
least_user =
    ap (λ es. option_map (λ (e : Key × Record). Referred e.0) (find (λ e. has (refs e.1) (Gate 0)) es)) (from_sorted_list shared refl)

-- edits at once are seen whole: what a record refers to may come after it, and a key may go with what refers to it
pub removed : (c : Configuration) (k q : Key) → get (remove c k) q ≡ cond (same_key q k) None (get c q)
removed = get-remove keys_total

all_come : batches.refusal limits now (Create (Filter 0) (filter 1 (Some 1)) ∷ Create (Gate 1) gate ∷ Create (Meter 1) meter ∷ []) ≡ None
all_come = simp (inserted, none_at)

moved_away : batches.refusal limits now (Remove (Gate 0) ∷ Replace (Filter 3) (filter 1 None) ∷ Create (Gate 1) gate ∷ []) ≡ None
moved_away = simp (inserted, removed, none_at, listed, none_listed)

all_go : batches.refusal limits now (Remove (Gate 0) ∷ Remove (Meter 0) ∷ Remove (Filter 3) ∷ []) ≡ None
all_go = simp (inserted, removed, none_at, listed, none_listed)

-- a new record refers to what its batch removes
gate_goes : batches.refusal limits now (Remove (Gate 0) ∷ Replace (Filter 3) (filter 0 None) ∷ []) ≡ Some (Dangling (Gate 0))
gate_goes = simp (inserted, removed, none_at, listed, none_listed)

-- the least number counts and not the first edit, and of one number the first edit
later_is_less : batches.refusal limits now (Create (Filter 4) (filter 9 None) ∷ Create (Gate 0) gate ∷ []) ≡ Some (Exists (Gate 0))
later_is_less = simp (inserted, none_at)

first_of_two : batches.refusal limits now (Create (Filter 4) (filter 9 None) ∷ Create (Filter 5) (filter 8 None) ∷ [])
    ≡ Some (Dangling (Gate 9))
first_of_two = simp (inserted, none_at)

-- an opening with no record has the default ports and nothing else
port_one : get (opening limits []) (Port 1) ≡ Some default_port
port_one = get-from_entries keys_total (default_ports 2) (Port 1)

port_two : get (opening limits []) (Port 2) ≡ Some default_port
port_two = get-from_entries keys_total (default_ports 2) (Port 2)

port_three : get (opening limits []) (Port 3) ≡ None
port_three = get-from_entries keys_total (default_ports 2) (Port 3)

-- a key given twice, a key and a reference beyond the limits
given_twice : opening_refusal limits ((Gate 0, gate) ∷ (Meter 1, meter) ∷ (Gate 0, gate) ∷ (Meter 1, meter) ∷ []) ≡ Some (Exists (Gate 0))
given_twice = refl

beyond_first : opening_refusal limits ((Gate 0, gate) ∷ (Gate 0, gate) ∷ (Filter 1, filter 16 None) ∷ (Gate 16, gate) ∷ [])
    ≡ Some (Range fields.Gate)
beyond_first = refl

-- an absent reference is that of the least filter, wherever it stands in the list
abbrev given : List (Key × Record)
given = (Filter 4, filter 9 None) ∷ (Filter 1, filter 8 None) ∷ []

least_filter : opening_refusal limits given ≡ Some (Dangling (Gate 8))
least_filter = simp (listed, none_listed, inserted, none_at)
