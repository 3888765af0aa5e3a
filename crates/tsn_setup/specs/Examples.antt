-- Worked examples: a document of each kind of table, and documents that are refused.
use Rattle.std.specs.Prelude.{ℕ, List, ◌++◌, Result, Ok, codes}
use Rattle.tsn_types.specs.declared.keys.Key.{Key}
use Rattle.tsn_types.specs.declared.records.Record.{Record}
use Rattle.tsn_types.specs.declared.refusals.Refusal.{Refusal}
use Rattle.tsn_config.specs.Opening.{standard_limits}
use Rattle.tsn_config.specs.declared.setup.Setup.{Setup}

-- two entries that fill the cycle
abbrev pub port_table : List ℕ
port_table = codes "[[port]]\nid = 1\ngates = 255\ncycle = 1000\nextension = 0\nbase = 0\n"
    ++ codes "list = [{gates = 1, interval = 300}, {gates = 128, interval = 700}]\n"

-- any priority, no meter
abbrev pub filter_table : List ℕ
filter_table = codes "[[filter]]\nid = 3\nhandle = 7\ngate = 0\nmax_sdu = 1500\noversize = true\n"

-- an open entry with an IPV and a bound on its octets, and a closed one without
abbrev pub gate_table : List ℕ
gate_table = codes "[[gate]]\nid = 0\nopen = false\n"
    ++ codes "list = [{open = true, ipv = 5, interval = 1000, octets = 150}, {open = false, interval = 1000}]\n"
    ++ codes "cycle = 2000\nextension = 0\nbase = 0\ninvalid_rx = false\noctets_exceeded = true\n"

-- no excess rate and no excess burst
abbrev pub meter_table : List ℕ
meter_table = codes "[[meter]]\nid = 0\ncir = 8000000\ncbs = 1500\neir = 0\nebs = 0\n"
    ++ codes "cf = false\naware = false\ndrop_yellow = false\nall_red = false\n"

-- the standard limits with these records
abbrev pub sets_up : List (Key × Record) → Result Setup Refusal
sets_up records = Ok (record { limits = standard_limits; records = records })
