-- A worked example: a configuration, and what is told of it.
use Rattle.std.specs.Prelude.{ℕ, true, false, List, [], ◌∷◌, ◌++◌, Some, None, codes}
use Rattle.std.specs.FinMap.{from_entries}
use Rattle.tsn_types.specs.declared.keys.Key.{Key}
use Rattle.tsn_types.specs.declared.keys.Key.TheVariants.{Port, Filter, Gate, Meter}
use Rattle.tsn_types.specs.declared.records.GateEntry.{GateEntry}
use Rattle.tsn_types.specs.declared.records.PortEntry.{PortEntry}
use Rattle.tsn_types.specs.declared.records.Record.{Record}
use Rattle.tsn_types.specs.declared.records.Record.TheVariants as records
use Rattle.tsn_types.specs.Examples.{a_gate, a_port}
use Rattle.tsn_edit.specs.Configuration.{Configuration}
use Rattle.tsn_export.specs.Examples.{meter}

abbrev port_of : List PortEntry → Record
port_of list = records.Port (record a_port { admin = record a_port.admin { list = list } })

-- 300 ns and 700 ns, a whole cycle
abbrev pub filled_port : Record
filled_port = records.Port a_port

-- 300 ns and 600 ns of 1000 ns
abbrev pub short_port : Record
short_port = port_of (record { gates = 1; interval = 300 } ∷ record { gates = 128; interval = 600 } ∷ [])

abbrev pub empty_port : Record
empty_port = port_of []

abbrev entry : GateEntry
entry = record { is_open = true; ipv = None; interval = 1250; octets = None }

abbrev gate_of : List GateEntry → Record
gate_of list = records.Gate (record a_gate { octets_exceeded = false; admin = record a_gate.admin { list = list } })

-- 1250 ns twice, of 2000 ns
abbrev pub long_gate : Record
long_gate = gate_of (entry ∷ entry ∷ [])

abbrev pub empty_gate : Record
empty_gate = gate_of []

-- it refers to gate 0 and meter 1
abbrev filter : Record
filter = records.Filter (record { handle = Some 7; priority = None; gate = 0; max_sdu = None; meter = Some 1; oversize = false })

abbrev pub entries : List (Key × Record)
entries =
    (Port 1, filled_port) ∷ (Port 2, short_port) ∷ (Port 3, empty_port) ∷ (Filter 4, filter)
    ∷ (Gate 0, long_gate) ∷ (Gate 1, empty_gate) ∷ (Gate 4, long_gate) ∷ (Meter 1, meter) ∷ (Meter 2, meter) ∷ []

abbrev pub configuration : Configuration
configuration = from_entries entries

-- Port 1 is filled and port 3 has no entry. Gate 0 and meter 1 are referred to.
abbrev pub lines : List ℕ
lines = codes "port 2: its list takes 900 ns of a cycle of 1000 ns\n"
    ++ codes "gate 0: its list takes 2500 ns of a cycle of 2000 ns\n"
    ++ codes "gate 1: no filter refers to it\n"
    ++ codes "gate 4: its list takes 2500 ns of a cycle of 2000 ns\n"
    ++ codes "gate 4: no filter refers to it\n"
    ++ codes "meter 2: no filter refers to it\n"
