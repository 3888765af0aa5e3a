-- The limits of a configuration: the number of ports, the sizes of three tables, the length of a list.
use Rattle.std.specs.Prelude.{ℕ}
use Rattle.tsn_types.specs.Numbers.{Within, most_ports}

pub record Bounds : Type 0 where
  pub ports : ℕ
  pub filters : ℕ
  pub gates : ℕ
  pub meters : ℕ
  pub list : ℕ

-- the instances in a table
abbrev pub most_instances : ℕ
most_instances = 65536

-- the entries of a gate control list (SupportedListMax)
abbrev pub longest_list : ℕ
longest_list = 4096

-- each limit is from 1 to the most that there may be
abbrev pub AreInRange : Bounds → Type 0
AreInRange l = Within 1 most_ports l.ports
    × (Within 1 most_instances l.filters
    × (Within 1 most_instances l.gates × (Within 1 most_instances l.meters × Within 1 longest_list l.list)))
