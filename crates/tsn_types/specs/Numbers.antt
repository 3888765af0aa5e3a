-- The ranges of the numbers of managed objects, each with its bound by name.
use Rattle.std.specs.Prelude.{ℕ, ◌≤◌, ◌^◌}

-- from the least to the greatest, both included
abbrev pub Within : ℕ → ℕ → ℕ → Type 0
Within least greatest n = (least ≤ n) × (n ≤ greatest)

-- ports are numbered from 1
abbrev pub most_ports : ℕ
most_ports = 64

abbrev pub IsPortId : ℕ → Type 0
IsPortId n = Within 1 most_ports n

-- stream filters, stream gates and flow meters are numbered from 0
abbrev pub greatest_instance : ℕ
greatest_instance = 65535

abbrev pub IsInstanceId : ℕ → Type 0
IsInstanceId n = n ≤ greatest_instance

-- priorities and internal priority values have three bits
abbrev pub greatest_priority : ℕ
greatest_priority = 7

abbrev pub IsPriority : ℕ → Type 0
IsPriority n = n ≤ greatest_priority

-- stream handles have 32 bits
abbrev pub greatest_handle : ℕ
greatest_handle = 4294967295

abbrev pub IsHandle : ℕ → Type 0
IsHandle n = n ≤ greatest_handle

-- a port has a gate for each of the eight traffic classes: the state of that of class i is bit i
abbrev pub greatest_gate_states : ℕ
greatest_gate_states = 255

abbrev pub AreGateStates : ℕ → Type 0
AreGateStates n = n ≤ greatest_gate_states

-- instants and lengths of time are in nanoseconds
abbrev pub greatest_instant : ℕ
greatest_instant = 2 ^ 62

abbrev pub IsInstant : ℕ → Type 0
IsInstant n = n ≤ greatest_instant

-- a cycle is at most a thousand seconds, and never of no length
abbrev pub longest_cycle : ℕ
longest_cycle = 10 ^ 12

abbrev pub IsCycle : ℕ → Type 0
IsCycle n = Within 1 longest_cycle n

-- so is an extension of a cycle, which may be of no length
abbrev pub longest_extension : ℕ
longest_extension = 10 ^ 12

abbrev pub IsExtension : ℕ → Type 0
IsExtension n = n ≤ longest_extension

-- an interval of an entry has 32 bits, and is at least a nanosecond
abbrev pub longest_interval : ℕ
longest_interval = 4294967295

abbrev pub IsInterval : ℕ → Type 0
IsInterval n = Within 1 longest_interval n

-- numbers of octets in an interval or a burst have 32 bits
abbrev pub most_octets : ℕ
most_octets = 4294967295

abbrev pub IsOctets : ℕ → Type 0
IsOctets n = n ≤ most_octets

-- a maximum SDU size has 16 bits, and is at least an octet
abbrev pub greatest_max_sdu : ℕ
greatest_max_sdu = 65535

abbrev pub IsMaxSdu : ℕ → Type 0
IsMaxSdu n = Within 1 greatest_max_sdu n

-- information rates are in bits per second
abbrev pub greatest_bit_rate : ℕ
greatest_bit_rate = 10 ^ 12

abbrev pub IsBitRate : ℕ → Type 0
IsBitRate n = n ≤ greatest_bit_rate
