-- The filter chain: the verdict on a frame and what it leaves, a table with a row for each step (802.1Q-2018, 8.6.5).
use Rattle.std.specs.Prelude.{ℕ, ◌+◌, ◌-◌, ◌^◌, min, nat_lt, nat_eq, Bool, true, false, not, ◌&&◌, ◌||◌, if◌then◌else◌, List, [], ◌∷◌, ◌++◌, Option, Some, None, unwrap_or}
use Rattle.std.specs.Option.{option_map}
use Rattle.tsn_types.specs.declared.records.StreamFilter.{StreamFilter}
use Rattle.tsn_types.specs.declared.records.StreamGate.{StreamGate}
use Rattle.tsn_meter.specs.declared.bucket.Colour.{Colour}
use Rattle.tsn_meter.specs.declared.bucket.Colour.TheVariants as colours
use Rattle.tsn_meter.specs.Bucket.{colour_of, marked}
use Rattle.tsn_meter.specs.Colours.{is_red, is_yellow}
use Rattle.tsn_chain.specs.declared.frame.Frame.{Frame}
use Rattle.tsn_chain.specs.declared.frame.DropCause.{DropCause}
use Rattle.tsn_chain.specs.declared.frame.DropCause.TheVariants.{Blocked, Oversize, Closed, Octets, Red, Yellow}
use Rattle.tsn_chain.specs.declared.frame.Verdict.{Verdict}
use Rattle.tsn_chain.specs.declared.frame.Verdict.TheVariants.{Passed, Dropped}
use Rattle.tsn_chain.specs.declared.data.Running.{Running}
use Rattle.tsn_chain.specs.declared.data.GateState.{GateState}
use Rattle.tsn_chain.specs.declared.data.FilterData.{FilterData}
use Rattle.tsn_chain.specs.declared.data.GateData.{GateData}
use Rattle.tsn_chain.specs.declared.data.MeterData.{MeterData}
use Rattle.tsn_chain.specs.declared.data.Metered.{Metered}
use Rattle.tsn_chain.specs.declared.data.Met.{Met}

-- What the chain reads: the chosen filter with its number, its gate, the gate's state at the frame's instant, the
-- frame, and what is kept of the instances that it meets.
pub record Case : Type 0 where
  pub number : ℕ
  pub filter : StreamFilter
  pub gate : StreamGate
  pub state : GateState
  pub frame : Frame
  pub time : ℕ
  pub met : Met

-- the greatest number of a counter
abbrev pub greatest_count : ℕ
greatest_count = 2 ^ 64 - 1

-- a count with so many more, at the greatest number at most
abbrev pub plus : ℕ → ℕ → ℕ
plus n more = min (n + more) greatest_count

-- Effects: what a row does to what is kept.

-- none
abbrev pub nothing : Met → Met
nothing k = k

-- two, one after the other
abbrev pub both : (Met → Met) → (Met → Met) → Met → Met
both first second k = second (first k)

abbrev pub on_filter : Met → FilterData → Met
on_filter k d = record k { filter = d }

abbrev pub on_gate : Met → GateData → Met
on_gate k d = record k { gate = d }

abbrev pub on_metered : (MeterData → MeterData) → Metered → Metered
on_metered f q = record q { kept = f q.kept }

abbrev pub on_meter : (MeterData → MeterData) → Met → Met
on_meter f k = record k { meter = option_map (on_metered f) k.meter }

-- a counter of the filter rises by one
abbrev pub matching : Met → Met
matching k = on_filter k (record k.filter { matching = plus k.filter.matching 1 })

abbrev pub not_passing_sdu : Met → Met
not_passing_sdu k = on_filter k (record k.filter { not_passing_sdu = plus k.filter.not_passing_sdu 1 })

abbrev pub passing_sdu : Met → Met
passing_sdu k = on_filter k (record k.filter { passing_sdu = plus k.filter.passing_sdu 1 })

abbrev pub not_passing : Met → Met
not_passing k = on_filter k (record k.filter { not_passing = plus k.filter.not_passing 1 })

abbrev pub passing : Met → Met
passing k = on_filter k (record k.filter { passing = plus k.filter.passing 1 })

abbrev pub red : Met → Met
red k = on_filter k (record k.filter { red = plus k.filter.red 1 })

-- a flag or a latch is set where it is enabled, and else stays as it is
abbrev pub blocked_where : Bool → Met → Met
blocked_where enabled k = on_filter k (record k.filter { blocked = k.filter.blocked || enabled })

abbrev pub invalid_rx_where : Bool → Met → Met
invalid_rx_where enabled k = on_gate k (record k.gate { invalid_rx = k.gate.invalid_rx || enabled })

abbrev pub octets_exceeded_where : Bool → Met → Met
octets_exceeded_where enabled k = on_gate k (record k.gate { octets_exceeded = k.gate.octets_exceeded || enabled })

abbrev pub all_red_where : Bool → Met → Met
all_red_where enabled k = on_meter (λ d. record d { red = d.red || enabled }) k

-- Cases: when a row applies.

-- octets above a bound, where there is one
abbrev pub is_above : ℕ → Option ℕ → Bool
is_above n None = false
is_above n (Some most) = nat_lt most n

-- a latch of the gate is set and enabled
abbrev pub is_latched : StreamGate → GateData → Bool
is_latched g d = (d.invalid_rx && g.invalid_rx) || (d.octets_exceeded && g.octets_exceeded)

-- The octets used in the interval that began at an instant: those kept, if they are of that interval, and else none
-- yet.
abbrev pub used_since : GateData → Option ℕ → ℕ → ℕ
used_since d None began = 0
used_since d (Some known) began = if nat_eq known began then d.used else 0

abbrev pub used_in : GateData → Running → ℕ
used_in d interval = used_since d d.began interval.began

-- the frame's octets would be more than the interval has; without a list in force they never are
abbrev pub is_over : GateData → ℕ → Option Running → Bool
is_over d octets None = false
is_over d octets (Some interval) = is_above (used_in d interval + octets) interval.octets

-- the octets used rise where a list is in force
abbrev pub used_by : ℕ → Option Running → Met → Met
used_by octets None k = k
used_by octets (Some interval) k = on_gate k (record k.gate { used = plus (used_in k.gate interval) octets; began = Some interval.began })

-- the meter is told yellow for a drop eligible frame and green for others
abbrev pub colour_in : Frame → Colour
colour_in f = if f.yellow then colours.Yellow else colours.Green

-- the meter's mark, and its bucket after that
abbrev pub mark : Case → Metered → Colour
mark x q = colour_of q.by x.time x.frame.octets (colour_in x.frame) q.kept.bucket

abbrev pub marking : Case → Metered → Met → Met
marking x q k = on_meter (λ d. record d { bucket = marked q.by x.time x.frame.octets (colour_in x.frame) d.bucket }) k

-- Verdicts.

-- The frame passes by its gate's internal priority value, if there is one. A drop eligible frame stays so.
abbrev pub pass : Case → Bool → Verdict
pass x yellow = Passed (Some x.number) x.time (unwrap_or x.state.ipv x.frame.priority) (x.frame.yellow || yellow)

abbrev pub drop : Case → DropCause → Verdict
drop x cause = Dropped x.number x.time cause

-- The table.

-- A row that ends the chain where its case applies, with an effect and a verdict, or one after which the chain goes on.
pub data Row : Type 0 where
  Ends : Bool → (Met → Met) → Verdict → Row
  GoesOn : (Met → Met) → Row

-- The rows are taken in order, and the first case that applies ends the chain; after the last row it ends with a
-- verdict.
abbrev pub walk : List Row → Verdict → Met → Verdict × Met
walk [] last k = (last, k)
walk (Ends applies effect verdict ∷ rows) last k = if applies then (verdict, effect k) else walk rows last k
walk (GoesOn effect ∷ rows) last k = walk rows last (effect k)

-- the stream filter (8.6.5.1), and the gate that it names: its latches, its state, the octets of its interval
abbrev pub gate_steps : Case → List Row
gate_steps x =
    GoesOn matching
    ∷ Ends (x.filter.oversize && x.met.filter.blocked) nothing (drop x Blocked)
    ∷ Ends (is_above x.frame.octets x.filter.max_sdu) (both not_passing_sdu (blocked_where x.filter.oversize)) (drop x Oversize)
    ∷ GoesOn passing_sdu
    ∷ Ends (is_latched x.gate x.met.gate) not_passing (drop x Closed)
    ∷ Ends (not x.state.is_open) (both not_passing (invalid_rx_where x.gate.invalid_rx)) (drop x Closed)
    ∷ Ends (is_over x.met.gate x.frame.octets x.state.running) (both not_passing (octets_exceeded_where x.gate.octets_exceeded))
    (drop x Octets)
    ∷ GoesOn (both (used_by x.frame.octets x.state.running) passing)
    ∷ []

-- the flow meter, where the filter names one
abbrev pub meter_steps : Case → Option Metered → List Row
meter_steps x None = []
meter_steps x (Some q) =
    Ends (q.by.all_red && q.kept.red) red (drop x Red)
    ∷ GoesOn (marking x q)
    ∷ Ends (is_red (mark x q)) (both red (all_red_where q.by.all_red)) (drop x Red)
    ∷ Ends (is_yellow (mark x q) && q.by.drop_yellow) red (drop x Yellow)
    ∷ Ends (is_yellow (mark x q)) nothing (pass x true)
    ∷ []

-- The verdict on a frame with a chosen filter, and what it leaves; it passes where no row ended the chain.
abbrev pub through : Case → Verdict × Met
through x = walk (gate_steps x ++ meter_steps x x.met.meter) (pass x false) x.met

-- a frame that no filter matches passes with its own priority, and nothing is counted
abbrev pub unmatched : Frame → ℕ → Verdict
unmatched f time = Passed None time f.priority f.yellow
