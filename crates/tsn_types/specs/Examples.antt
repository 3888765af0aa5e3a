-- Worked examples: a record of each kind.
use Rattle.std.specs.Prelude.{ℕ, Bool, List, [], ◌∷◌, true, false, Some, None}
use Rattle.tsn_types.specs.declared.records.GateEntry.{GateEntry}
use Rattle.tsn_types.specs.declared.records.PortGates.{PortGates}
use Rattle.tsn_types.specs.declared.records.StreamGate.{StreamGate}
use Rattle.tsn_types.specs.declared.records.StreamFilter.{StreamFilter}
use Rattle.tsn_types.specs.declared.records.FlowMeter.{FlowMeter}

-- two entries that fill the cycle
abbrev pub a_port : PortGates
a_port = record {
  gates = 255;
  admin = record {
    list = record { gates = 1; interval = 300 } ∷ record { gates = 128; interval = 700 } ∷ [];
    cycle = 1000;
    extension = 0;
    base = 0;
  };
}

-- any priority, and no meter
abbrev pub a_filter : StreamFilter
a_filter = record { handle = Some 7; priority = None; gate = 0; max_sdu = Some 1500; meter = None; oversize = true }

-- a stream gate by its state, by whether more octets than an interval has left close it for good, and by its list and cycle
abbrev pub gate_with : Bool → Bool → List GateEntry → ℕ → StreamGate
gate_with is_open octets_exceeded list cycle = record {
  is_open = is_open;
  ipv = None;
  invalid_rx = false;
  octets_exceeded = octets_exceeded;
  admin = record { list = list; cycle = cycle; extension = 0; base = 0 };
}

-- an open entry with an internal priority and a bound of octets, and a closed one with neither
abbrev pub a_gate : StreamGate
a_gate = gate_with false true (record { is_open = true; ipv = Some 5; interval = 1000; octets = Some 150 }
    ∷ record { is_open = false; ipv = None; interval = 1000; octets = None } ∷ []) 2000

-- no excess rate and no excess burst
abbrev pub a_meter : FlowMeter
a_meter = record { cir = 8000000; cbs = 1500; eir = 0; ebs = 0; cf = false; aware = false; drop_yellow = false; all_red = false }
