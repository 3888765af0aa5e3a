-- The tables of what the filter chain keeps, and when a frame finds in them what it meets.
use Rattle.std.specs.Prelude.{◌≡◌, ℕ, IsSome, Some}
use Rattle.std.specs.FinMap.{FinMap, get}
use Rattle.std.specs.Ordering.{nat_cmp}
use Rattle.tsn_types.specs.declared.keys.Key.TheVariants.{Filter, Gate}
use Rattle.tsn_types.specs.declared.records.GateEntry.{GateEntry}
use Rattle.tsn_types.specs.declared.records.StreamFilter.{StreamFilter}
use Rattle.tsn_types.specs.declared.records.StreamGate.{StreamGate}
use Rattle.tsn_config.specs.Kinds.{filter_of, gate_of}
use Rattle.tsn_edit.specs.Configuration.{Configuration}
use Rattle.tsn_schedule.specs.Kept.{Kept}
use Rattle.tsn_chain.specs.declared.frames.FrameRows.{FrameRows}
use Rattle.tsn_chain.specs.Instances.{FrameData}

-- three tables, as what is kept
abbrev pub frames_in : FrameRows → FrameData
frames_in rows = record { filters = rows.filters.map; gates = rows.gates.map; meters = rows.meters.map }

-- a meter that is named has a row
abbrev pub HasMeter : FrameData → StreamFilter → Type 0
HasMeter f q = (n : ℕ) → q.meter ≡ Some n → IsSome (get f.meters n)

-- the filter of a number is there with its gate, that gate's runner, and what is kept of them and of its meter
pub record IsReady (c : Configuration) (runners : FinMap nat_cmp (Kept GateEntry)) (f : FrameData) (n : ℕ) : Type 0 where
  pub filter : StreamFilter
  pub gate : StreamGate
  pub has_filter : filter_of (get c (Filter n)) ≡ Some filter
  pub has_gate : gate_of (get c (Gate filter.gate)) ≡ Some gate
  pub has_runner : IsSome (get runners filter.gate)
  pub keeps_filter : IsSome (get f.filters n)
  pub keeps_gate : IsSome (get f.gates filter.gate)
  pub keeps_meter : HasMeter f filter
