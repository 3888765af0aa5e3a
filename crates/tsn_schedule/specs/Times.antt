-- Change times, and the greatest numbers of a schedule's time.
use Rattle.std.specs.Prelude.{ℕ, ◌+◌, ◌-◌, ◌*◌, ◌/◌, ◌^◌, ◌<◌}

-- the greatest instant
abbrev pub greatest_instant : ℕ
greatest_instant = 2 ^ 62

-- the longest cycle
abbrev pub longest_cycle : ℕ
longest_cycle = 10 ^ 12

-- Change time (802.1Q-2018, 8.6.9, SetConfigChangeTime): the base where it isn't before the instant, else the first
-- instant a whole number of cycles after the base that isn't before it. `-` stops at 0.
abbrev pub change_of : ℕ → ℕ → ℕ → ℕ
change_of base cycle instant = base + cycle * ((instant - base + (cycle - 1)) / cycle)

-- An instant at which a change may come: it may lie after the greatest instant.
abbrev pub IsChange : ℕ → Type 0
IsChange change = change < greatest_instant + longest_cycle
