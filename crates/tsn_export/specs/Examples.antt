-- Worked examples: a record of each kind with its text as it stands in a setup, and a configuration of them.
use Rattle.std.specs.Prelude.{ℕ, true, false, List, [], ◌∷◌, ◌++◌, Some, codes}
use Rattle.std.specs.FinMap.{from_entries}
use Rattle.tsn_types.specs.declared.keys.Key.{Key}
use Rattle.tsn_types.specs.declared.keys.Key.TheVariants.{Port, Filter, Gate, Meter}
use Rattle.tsn_types.specs.declared.limits.Limits.{Limits}
use Rattle.tsn_types.specs.declared.records.Record.{Record}
use Rattle.tsn_types.specs.declared.records.Record.TheVariants as records
use Rattle.tsn_types.specs.Examples.{a_filter, a_gate, a_meter, a_port}
use Rattle.tsn_config.specs.Opening.{default_port}
use Rattle.tsn_edit.specs.Configuration.{Configuration}

abbrev pub limits : Limits
limits = record { ports = 2; filters = 16; gates = 16; meters = 16; list = 16 }

abbrev pub limits_lines : List ℕ
limits_lines = codes "ports = 2\nmax_filters = 16\nmax_gates = 16\nmax_meters = 16\nlist_max = 16\n"

abbrev pub port : Record
port = records.Port a_port

abbrev pub port_lines : List ℕ
port_lines = codes "\n[[port]]\nid = 1\ngates = 255\n"
    ++ codes "list = [\n  {gates = 1, interval = 300},\n  {gates = 128, interval = 700},\n]\n"
    ++ codes "cycle = 1000\nextension = 0\nbase = 0\n"

abbrev pub filter : Record
filter = records.Filter a_filter

abbrev pub filter_lines : List ℕ
filter_lines = codes "\n[[filter]]\nid = 3\nhandle = 7\ngate = 0\nmax_sdu = 1500\noversize = true\n"

abbrev pub gate : Record
gate = records.Gate a_gate

abbrev pub gate_lines : List ℕ
gate_lines = codes "\n[[gate]]\nid = 0\nopen = false\n"
    ++ codes "list = [\n  {open = true, ipv = 5, interval = 1000, octets = 150},\n  {open = false, interval = 1000},\n]\n"
    ++ codes "cycle = 2000\nextension = 0\nbase = 0\ninvalid_rx = false\noctets_exceeded = true\n"

-- no excess rate and no excess burst
abbrev pub meter : Record
meter = records.Meter (record a_meter { all_red = true })

abbrev pub meter_lines : List ℕ
meter_lines = codes "\n[[meter]]\nid = 0\ncir = 8000000\ncbs = 1500\neir = 0\nebs = 0\n"
    ++ codes "cf = false\naware = false\ndrop_yellow = false\nall_red = true\n"

-- nothing is null
abbrev pub full_filter : Record
full_filter = records.Filter (record {
  handle = Some 4294967295;
  priority = Some 0;
  gate = 65535;
  max_sdu = Some 1;
  meter = Some 9;
  oversize = false;
})

abbrev pub full_filter_lines : List ℕ
full_filter_lines = codes "\n[[filter]]\nid = 65535\nhandle = 4294967295\npriority = 0\ngate = 65535\n"
    ++ codes "max_sdu = 1\nmeter = 9\noversize = false\n"

-- no entry
abbrev pub empty_gate : Record
empty_gate = records.Gate (record {
  is_open = true;
  ipv = Some 7;
  invalid_rx = true;
  octets_exceeded = false;
  admin = record { list = []; cycle = 1; extension = 2; base = 3 };
})

abbrev pub empty_gate_lines : List ℕ
empty_gate_lines = codes "\n[[gate]]\nid = 1\nopen = true\nipv = 7\nlist = []\n"
    ++ codes "cycle = 1\nextension = 2\nbase = 3\ninvalid_rx = true\noctets_exceeded = false\n"

-- the second port is as one that no setup names
abbrev pub entries : List (Key × Record)
entries = (Port 1, port) ∷ (Port 2, default_port) ∷ (Filter 3, filter) ∷ (Gate 0, gate) ∷ (Meter 0, meter) ∷ []

abbrev pub configuration : Configuration
configuration = from_entries entries
