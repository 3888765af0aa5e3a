-- The names of members, as the table of members has them.
use Rattle.std.specs.Prelude.{ℕ, List, [], drop, map}
use Rattle.tsn_records.specs.declared.allowed.Allowed.{Allowed}
use Rattle.tsn_types.specs.declared.keys.Kind.{Kind}
use Rattle.tsn_types.specs.declared.keys.Kind.TheVariants.{Port, Filter, Gate, Meter}
use Rattle.tsn_records.specs.declared.allowed.TheConstants.{DOCUMENT, PORT, FILTER, GATE, METER, PORT_ENTRY, GATE_ENTRY}

-- a record's members in a setup: its identifier, and then those that it has in a command too
abbrev pub names_of : Kind → List (List ℕ)
names_of Port = map (λ member. member.0.now) PORT.now
names_of Filter = map (λ member. member.0.now) FILTER.now
names_of Gate = map (λ member. member.0.now) GATE.now
names_of Meter = map (λ member. member.0.now) METER.now

-- the members of an entry of its list, where it has one
abbrev pub entry_names_of : Kind → List (List ℕ)
entry_names_of Port = map (λ member. member.0.now) PORT_ENTRY.now
entry_names_of Filter = []
entry_names_of Gate = map (λ member. member.0.now) GATE_ENTRY.now
entry_names_of Meter = []

-- the members of a setup
abbrev pub setup_names : List (List ℕ)
setup_names = map (λ member. member.0.now) DOCUMENT.now

-- the members of a record, each with its name and what it may be: its identifier stands in its key, or ahead of them in a setup
abbrev pub rows_of : Kind → List (List ℕ × Allowed)
rows_of Port = map (λ member. (member.0.now, member.1)) (drop 1 PORT.now)
rows_of Filter = map (λ member. (member.0.now, member.1)) (drop 1 FILTER.now)
rows_of Gate = map (λ member. (member.0.now, member.1)) (drop 1 GATE.now)
rows_of Meter = map (λ member. (member.0.now, member.1)) (drop 1 METER.now)
