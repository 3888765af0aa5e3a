-- A change makes an instance's data new, keeps it or drops it.
use Rattle.std.specs.Prelude.{◌≡◌, ℕ, true, false, fold, List, Option, Some, None}
use Rattle.std.specs.List.{AllByRecursion}
use Rattle.std.specs.FinMap.{FinMap, get, insert, remove}
use Rattle.std.specs.Ordering.{nat_cmp}
use Rattle.tsn_types.specs.declared.keys.Key.{Key}
use Rattle.tsn_types.specs.declared.keys.Key.TheVariants.{Port, Filter, Gate, Meter}
use Rattle.tsn_types.specs.declared.records.Record.{Record}
use Rattle.tsn_types.specs.declared.records.FlowMeter.{FlowMeter}
use Rattle.tsn_config.specs.Kinds.{meter_of}
use Rattle.tsn_edit.specs.Edits.{is_of_kind}
use Rattle.tsn_edit.specs.Parts.{Change, Part, parts}
use Rattle.tsn_meter.specs.Bucket.{full_of, clipped}
use Rattle.tsn_schedule.specs.Kept.{fresh}
use Rattle.tsn_chain.specs.declared.data.FilterData.{FilterData}
use Rattle.tsn_chain.specs.declared.data.GateData.{GateData}
use Rattle.tsn_chain.specs.declared.data.MeterData.{MeterData}
use Rattle.tsn_chain.specs.Instances.{FrameData, Runners}

-- what is kept of a new filter, of a new gate, and of a new meter at the bridge time: no flag, and a full bucket
abbrev pub new_filter : FilterData
new_filter = record { blocked = false; matching = 0; not_passing = 0; not_passing_sdu = 0; passing = 0; passing_sdu = 0; red = 0 }

abbrev pub new_gate : GateData
new_gate = record { invalid_rx = false; octets_exceeded = false; used = 0; began = None }

abbrev pub new_meter : ℕ → FlowMeter → MeterData
new_meter now m = record { bucket = full_of m now; red = false }

-- what is kept of a meter whose record is replaced: its flag, and its bucket clipped by the new record
abbrev pub clipped_meter : FlowMeter → MeterData → MeterData
clipped_meter m d = record { bucket = clipped m d.bucket; red = d.red }

-- A row of a table after the value of its key changed: dropped where there is none after, new where there was none,
-- else kept.
abbrev pub row_after : {A : Type 0} → A → Option Record → Option Record → FinMap nat_cmp A → ℕ → FinMap nat_cmp A
row_after new before None t n = remove t n
row_after new None (Some r) t n = insert t n new
row_after new (Some q) (Some r) t n = t

-- a row with something done to it, where it is there
abbrev pub with_row : {A : Type 0} → (A → A) → Option A → FinMap nat_cmp A → ℕ → FinMap nat_cmp A
with_row f None t n = t
with_row f (Some d) t n = insert t n (f d)

-- Of a meter's row likewise, where a new one is full and one that stays is clipped.
abbrev pub meter_row_after : ℕ → Option Record → Option FlowMeter → FinMap nat_cmp MeterData → ℕ → FinMap nat_cmp MeterData
meter_row_after now before None t n = remove t n
meter_row_after now None (Some m) t n = insert t n (new_meter now m)
meter_row_after now (Some q) (Some m) t n = with_row (clipped_meter m) (get t n) t n

-- the same, in the tables of the key's kind
abbrev pub frames_at : ℕ → FrameData → Key → Option Record → Option Record → FrameData
frames_at now f (Port n) before after = f
frames_at now f (Filter n) before after = record f { filters = row_after new_filter before after f.filters n }
frames_at now f (Gate n) before after = record f { gates = row_after new_gate before after f.gates n }
frames_at now f (Meter n) before after = record f { meters = meter_row_after now before (meter_of after) f.meters n }

abbrev pub runners_at : Runners → Key → Option Record → Option Record → Runners
runners_at r (Port n) before after = record r { ports = row_after fresh before after r.ports n }
runners_at r (Filter n) before after = r
runners_at r (Gate n) before after = record r { gates = row_after fresh before after r.gates n }
runners_at r (Meter n) before after = r

-- what is kept after a change, part by part
abbrev pub frames_after : ℕ → FrameData → Change → FrameData
frames_after now f e = fold (λ d (p : Part). frames_at now d p.key p.before p.after) f (parts e)

abbrev pub runners_after : Runners → Change → Runners
runners_after r e = fold (λ d (p : Part). runners_at d p.key p.before p.after) r (parts e)

-- a value at a key is a record of the key's kind, or none
abbrev pub IsOfKind : Key → Option Record → Type 0
IsOfKind k None = Unit {0}
IsOfKind k (Some r) = is_of_kind k r ≡ true

-- and so is each value after
abbrev pub AreOfKind : List Part → Type 0
AreOfKind ps = AllByRecursion (λ p. IsOfKind p.key p.after) ps
