-- Lists and acts of worked examples.
use Rattle.std.specs.Prelude.{ℕ, false, true, List, [], ◌∷◌, Option, Some, None, map}
use Rattle.std.specs.Option.{option_map}
use Rattle.tsn_types.specs.declared.records.GateEntry.{GateEntry}
use Rattle.tsn_types.specs.declared.records.PortEntry.{PortEntry}
use Rattle.tsn_types.specs.declared.records.Schedule.{Schedule}
use Rattle.tsn_schedule.specs.Acts.{Act, Enable, Disable, Apply}
use Rattle.tsn_schedule.specs.States.{state_in, began_in}

abbrev pub row : ℕ → ℕ → PortEntry
row gates interval = record { gates = gates; interval = interval }

abbrev pub plan : List PortEntry → ℕ → ℕ → ℕ → Schedule PortEntry
plan list cycle extension base = record { list = list; cycle = cycle; extension = extension; base = base }

-- two lists: 1 for 300 ns and then 128 for 700, and 255 for 500 and then 0 for 500
abbrev pub one_two : List PortEntry
one_two = row 1 300 ∷ row 128 700 ∷ []

abbrev pub open_shut : List PortEntry
open_shut = row 255 500 ∷ row 0 500 ∷ []

abbrev pub all_open : List PortEntry
all_open = row 255 1000 ∷ []

-- the gates at each of some instants; none where the admin states stand
abbrev pub gates_at : List (Act PortEntry) → List ℕ → List (Option ℕ)
gates_at acts ts = map (λ t. option_map (λ (entry : PortEntry). entry.gates) (state_in (λ entry. entry.interval) acts t)) ts

-- where the interval at an instant began
abbrev pub began_at : List (Act PortEntry) → ℕ → Option ℕ
began_at acts t = began_in (λ entry. entry.interval) acts t

abbrev pub ahead : List (Act PortEntry)
ahead = Apply (plan one_two 1000 0 0) 2500 ∷ Enable 0 ∷ []

abbrev pub with_cycle : ℕ → List (Act PortEntry)
with_cycle cycle = Apply (plan one_two cycle 0 0) 0 ∷ Enable 0 ∷ []

-- as `ahead`, with an extension
abbrev pub extended : ℕ → List (Act PortEntry)
extended extension = Apply (plan one_two 1000 extension 0) 2500 ∷ Enable 0 ∷ []

-- another list is to come at 5150, and then yet another one is to come in its place at 7000
abbrev pub second : ℕ → List (Act PortEntry)
second extension = Apply (plan all_open 1000 0 5150) 3500 ∷ extended extension

abbrev pub third : ℕ → ℕ → List (Act PortEntry)
third extension a = Apply (plan one_two 1000 0 7000) a ∷ second extension

-- the first list again, after another
abbrev pub replaced : List (Act PortEntry)
replaced = Apply (plan open_shut 1000 0 0) 5000 ∷ ahead

abbrev pub restored : List (Act PortEntry)
restored = Apply (plan one_two 1000 0 0) 9001 ∷ replaced

abbrev pub ahead_again : List (Act PortEntry)
ahead_again = Apply (plan one_two 1000 0 12000) 12000 ∷ restored

-- disabled before a change comes, and enabled again
abbrev pub disabled : ℕ → List (Act PortEntry)
disabled a = Disable a ∷ Apply (plan open_shut 1000 0 0) 5200 ∷ ahead

abbrev pub enabled : ℕ → List (Act PortEntry)
enabled a = Enable 7100 ∷ disabled a

-- the list of a stream gate
abbrev pub gate_list : List GateEntry
gate_list =
    record { is_open = true; ipv = Some 5; interval = 1000; octets = Some 150 }
    ∷ record { is_open = false; ipv = None; interval = 1000; octets = None } ∷ []

abbrev pub gate_acts : List (Act GateEntry)
gate_acts = Apply (record { list = gate_list; cycle = 2000; extension = 0; base = 0 }) 0 ∷ Enable 0 ∷ []

abbrev pub gate_states : List ℕ → List (Option GateEntry)
gate_states ts = map (state_in (λ entry. entry.interval) gate_acts) ts

abbrev pub gate_begins : List ℕ → List (Option ℕ)
gate_begins ts = map (began_in (λ entry. entry.interval) gate_acts) ts
