-- The counters of an instance: what a runner tells of its acts, and what the filter chain keeps.
use Rattle.std.specs.Prelude.{◌≡◌, ℕ, List, Some}
use Rattle.std.specs.FinMap.{get}
use Rattle.tsn_types.specs.declared.keys.Key.{Key}
use Rattle.tsn_types.specs.declared.keys.Key.TheVariants.{Port, Filter, Gate, Meter}
use Rattle.tsn_schedule.specs.Acts.{Act, is_enabled}
use Rattle.tsn_schedule.specs.Counters.{change_in, errors_in, is_pending}
use Rattle.tsn_chain.specs.declared.data.FilterData.{FilterData}
use Rattle.tsn_chain.specs.declared.data.GateData.{GateData}
use Rattle.tsn_chain.specs.declared.data.MeterData.{MeterData}
use Rattle.tsn_chain.specs.declared.state.Counters.{Counters}
use Rattle.tsn_chain.specs.declared.state.Counters.TheVariants as counters
use Rattle.tsn_chain.specs.declared.state.ListCounters.{ListCounters}
use Rattle.tsn_chain.specs.Acts.{RowAnswers}
use Rattle.tsn_chain.specs.Instances.{Runners, FrameData}

-- of a port's or a gate's list, after some acts and at the bridge time (802.1Q-2018, 12.29.1)
abbrev pub list_counters : {E : Type 0} → ℕ → List (Act E) → ListCounters
list_counters now acts =
    record { change_error = errors_in acts; change_time = change_in acts; enabled = is_enabled acts; pending = is_pending acts now }

-- of a gate: those of its list, and its latches
abbrev pub gate_counters : {E : Type 0} → ℕ → GateData → List (Act E) → Counters
gate_counters now d acts = counters.Gate (list_counters now acts) d.invalid_rx d.octets_exceeded

-- the counters of a key, for whatever acts its runner stands
abbrev pub KeyCounts : Runners → FrameData → ℕ → Key → Counters → Type 0
KeyCounts r f now (Port n) told = RowAnswers r.ports n (λ acts. told ≡ counters.Port (list_counters now acts))
KeyCounts r f now (Filter n) told = (d : FilterData) → get f.filters n ≡ Some d → told ≡ counters.Filter d
KeyCounts r f now (Gate n) told = (d : GateData) → get f.gates n ≡ Some d → RowAnswers r.gates n (λ acts. told ≡ gate_counters now d acts)
KeyCounts r f now (Meter n) told = (d : MeterData) → get f.meters n ≡ Some d → told ≡ counters.Meter d.red
