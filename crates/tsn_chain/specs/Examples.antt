-- Filters, gates, meters and frames of worked examples.
use Rattle.std.specs.Prelude.{ℕ, Bool, true, false, List, [], ◌∷◌, Some, None}
use Rattle.tsn_types.specs.declared.records.StreamFilter.{StreamFilter}
use Rattle.tsn_types.specs.declared.records.StreamGate.{StreamGate}
use Rattle.tsn_types.specs.declared.records.FlowMeter.{FlowMeter}
use Rattle.tsn_types.specs.declared.records.GateEntry.{GateEntry}
use Rattle.tsn_types.specs.Examples.{gate_with}
use Rattle.tsn_schedule.specs.Acts.{Act}
use Rattle.tsn_chain.specs.declared.data.Met.{Met}
use Rattle.tsn_chain.specs.declared.frame.Verdict.{Verdict}
use Rattle.tsn_chain.specs.Chain.{Case, through}
use Rattle.tsn_chain.specs.Following.{new_filter, new_gate, new_meter}
use Rattle.tsn_chain.specs.Frames.{state_at}

-- a filter with its number, its gate, and the acts of the gate
pub record Scene : Type 0 where
  pub number : ℕ
  pub filter : StreamFilter
  pub gate : StreamGate
  pub acts : List (Act GateEntry)

-- a frame of handle 7 and priority 2 that is not drop eligible: when it comes, and its octets
pub record Coming : Type 0 where
  pub time : ℕ
  pub octets : ℕ

abbrev pub frame_of : ℕ → ℕ → Coming
frame_of time octets = record { time = time; octets = octets }

abbrev pub case_in : Scene → Met → Coming → Case
case_in s k f = record {
  number = s.number;
  filter = s.filter;
  gate = s.gate;
  state = state_at (λ _. s.acts) s.filter.gate s.gate f.time;
  frame = record { handle = 7; priority = 2; octets = f.octets; yellow = false };
  time = f.time;
  met = k;
}

-- the verdicts on the frames in order, and what they leave
abbrev pub verdicts : Scene → Met → List Coming → List Verdict
verdicts s k [] = []
verdicts s k (f ∷ fs) = (through (case_in s k f)).0 ∷ verdicts s (through (case_in s k f)).1 fs

abbrev pub left_by : Scene → Met → List Coming → Met
left_by s k [] = k
left_by s k (f ∷ fs) = left_by s (through (case_in s k f)).1 fs

-- what is kept of new instances
abbrev pub no_meter : Met
no_meter = record { filter = new_filter; gate = new_gate; meter = None }

abbrev pub with_meter_new : FlowMeter → Met
with_meter_new m = record { filter = new_filter; gate = new_gate; meter = Some (record { by = m; kept = new_meter 0 m }) }

-- 8 Mbit/s and 1500 octets, with or without marking all frames red
abbrev pub meter_with : Bool → FlowMeter
meter_with all_red =
    record { cir = 8000000; cbs = 1500; eir = 0; ebs = 0; cf = false; aware = false; drop_yellow = false; all_red = all_red }

-- both sizes 100 octets, coupled or not
abbrev pub two_sizes : Bool → FlowMeter
two_sizes cf = record { cir = 8000000; cbs = 100; eir = 0; ebs = 100; cf = cf; aware = false; drop_yellow = false; all_red = false }

abbrev pub filter_3 : Scene
filter_3 = record {
  number = 3;
  filter = record { handle = Some 7; priority = None; gate = 0; max_sdu = Some 1500; meter = Some 0; oversize = true };
  gate = gate_with true false [] 1000000;
  acts = [];
}

-- a filter with nothing but a gate, whose list runs
abbrev pub filter_0 : Bool → List (Act GateEntry) → Scene
filter_0 octets_exceeded acts =
    record {
      number = 0;
      filter = record { handle = None; priority = None; gate = 0; max_sdu = None; meter = None; oversize = false };
      gate = gate_with false octets_exceeded [] 1000000;
      acts = acts;
    }

-- a filter that lets 100 octets through
abbrev pub short_filter : Scene
short_filter = record {
  number = 0;
  filter = record { handle = None; priority = None; gate = 0; max_sdu = Some 100; meter = None; oversize = true };
  gate = gate_with true false [] 1000000;
  acts = [];
}

-- frames of 1000 octets at 0, at 100000 and at 500000
abbrev pub three : List Coming
three = frame_of 0 1000 ∷ frame_of 100000 1000 ∷ frame_of 500000 1000 ∷ []

-- three frames of 100 octets at 0, and at 150000 one of 100 and one of 50
abbrev pub five : List Coming
five = frame_of 0 100 ∷ frame_of 0 100 ∷ frame_of 0 100 ∷ frame_of 150000 100 ∷ frame_of 150000 50 ∷ []
