-- A frame at a bridge: which records and instance data it meets, its verdict, and what it leaves of all instances.
use Rattle.std.specs.Prelude.{◌≡◌, ℕ, List, Option, Some, None}
use Rattle.std.specs.Option.{option_map, option_and_then}
use Rattle.std.specs.Ordering.{nat_cmp}
use Rattle.std.specs.FinMap.{FinMap, get, insert}
use Rattle.tsn_types.specs.declared.keys.Key.TheVariants.{Filter, Gate, Meter}
use Rattle.tsn_types.specs.declared.records.GateEntry.{GateEntry}
use Rattle.tsn_types.specs.declared.records.StreamFilter.{StreamFilter}
use Rattle.tsn_types.specs.declared.records.StreamGate.{StreamGate}
use Rattle.tsn_types.specs.declared.records.FlowMeter.{FlowMeter}
use Rattle.tsn_config.specs.Kinds.{filter_of, gate_of, meter_of}
use Rattle.tsn_edit.specs.Configuration.{Configuration}
use Rattle.tsn_schedule.specs.Acts.{Act}
use Rattle.tsn_schedule.specs.Kept.{Kept}
use Rattle.tsn_schedule.specs.Stands.{StandsFor}
use Rattle.tsn_schedule.specs.States.{state_in, began_in}
use Rattle.tsn_chain.specs.declared.data.GateState.{GateState}
use Rattle.tsn_chain.specs.declared.data.MeterData.{MeterData}
use Rattle.tsn_chain.specs.declared.data.Met.{Met}
use Rattle.tsn_chain.specs.declared.data.Metered.{Metered}
use Rattle.tsn_chain.specs.declared.frame.Frame.{Frame}
use Rattle.tsn_chain.specs.declared.frame.Verdict.{Verdict}
use Rattle.tsn_chain.specs.Chain.{Case, through, unmatched}
use Rattle.tsn_chain.specs.Chosen.{chosen, filters_of}
use Rattle.tsn_chain.specs.Instances.{FrameData}
use Rattle.tsn_chain.specs.State.{read_state}

-- the acts of each gate, by number
abbrev pub GateActs : Type 0
GateActs = ℕ → List (Act GateEntry)

-- each gate's runner stands for its acts
abbrev pub StandFor : FinMap nat_cmp (Kept GateEntry) → GateActs → Type 0
StandFor gates acts = (n : ℕ) (k : Kept GateEntry) → get gates n ≡ Some k → StandsFor k (acts n)

-- the record of the meter that a filter names
abbrev pub meter_at : Configuration → Option ℕ → Option FlowMeter
meter_at c None = None
meter_at c (Some n) = meter_of (get c (Meter n))

-- that meter with what is kept of it; in a well kept configuration it is there
abbrev pub metered_at : FrameData → Option ℕ → Option FlowMeter → Option Metered
metered_at f None by = None
metered_at f (Some n) None = None
metered_at f (Some n) (Some by) = option_map (λ d. record { by = by; kept = d }) (get f.meters n)

-- what is kept of the filter of a number, its gate and its meter
abbrev pub met_at : FrameData → ℕ → StreamFilter → Option FlowMeter → Option Met
met_at f n q by = option_and_then
    (λ d. option_map (λ g. record { filter = d; gate = g; meter = metered_at f q.meter by }) (get f.gates q.gate)) (get f.filters n)

-- the same, put back
abbrev pub with_meter : FinMap nat_cmp MeterData → Option ℕ → Option Metered → FinMap nat_cmp MeterData
with_meter t None q = t
with_meter t (Some n) None = t
with_meter t (Some n) (Some q) = insert t n q.kept

abbrev pub with_met : FrameData → ℕ → StreamFilter → Met → FrameData
with_met f n q k =
    record { filters = insert f.filters n k.filter; gates = insert f.gates q.gate k.gate; meters = with_meter f.meters q.meter k.meter }

-- the state of a gate that the chain reads at an instant
abbrev pub state_at : GateActs → ℕ → StreamGate → ℕ → GateState
state_at acts n g time = read_state g (state_in (λ e. e.interval) (acts n) time) (began_in (λ e. e.interval) (acts n) time)

-- what a frame meets whose chosen filter has a number; none only where one of the instances is not there
abbrev pub case_at : Configuration → FrameData → GateActs → Frame → ℕ → ℕ → Option Case
case_at c f acts frame time n =
    option_and_then (λ q.
    option_and_then (λ g.
    option_map (λ k. record { number = n; filter = q; gate = g; state = state_at acts q.gate g time; frame = frame; time = time; met = k })
    (met_at f n q (meter_at c q.meter)))
    (gate_of (get c (Gate q.gate))))
    (filter_of (get c (Filter n)))

-- the verdict, and what is kept of all instances
abbrev pub framed_by : FrameData → Case → Verdict × FrameData
framed_by f x = ((through x).0, with_met f x.number x.filter (through x).1)

abbrev pub framed_at : Configuration → FrameData → GateActs → Frame → ℕ → Option ℕ → Option (Verdict × FrameData)
framed_at c f acts frame time None = Some (unmatched frame time, f)
framed_at c f acts frame time (Some n) = option_map {U = Verdict × FrameData} (framed_by f) (case_at c f acts frame time n)

-- A frame at an instant, by the configuration, what is kept and the acts of the gates.
abbrev pub framed : Configuration → FrameData → GateActs → Frame → ℕ → Option (Verdict × FrameData)
framed c f acts frame time = framed_at c f acts frame time (chosen frame.handle frame.priority (filters_of c))
