-- Journals of worked examples, by hand: the first run of a script, an undo that a colleague's removal blocks, an undo of all or of nothing,
-- a redo in conflict, and a settle.
use Rattle.std.specs.Prelude.{ℕ, List, [], ◌∷◌, Option, Some, None, true, false}
use Rattle.std.specs.List.{fold}
use Rattle.tsn_types.specs.declared.keys.Key.{Key}
use Rattle.tsn_types.specs.declared.keys.Key.TheVariants.{Filter, Gate, Meter}
use Rattle.tsn_types.specs.declared.records.Record.{Record}
use Rattle.tsn_types.specs.declared.records.Record.TheVariants.{Filter as FilterRecord, Gate as GateRecord, Meter as MeterRecord}
use Rattle.tsn_types.specs.Examples.{gate_with}
use Rattle.tsn_edit.specs.Parts.{Change}
use Rattle.tsn_entries.specs.declared.entries.Entry.{Entry}
use Rattle.tsn_entries.specs.declared.entries.What.TheVariants.{Made, Settled}
use Rattle.tsn_entries.specs.Entries.{Applied, undone, with_entry}

-- an open gate with an empty list
abbrev pub gate : Record
gate = GateRecord (gate_with true false [] 1000000)

-- a filter of stream handle 7 on a gate, with no meter
abbrev pub filter : ℕ → Record
filter g = FilterRecord (record { handle = Some 7; priority = None; gate = g; max_sdu = Some 1500; meter = None; oversize = true })

abbrev pub change : Key → Option Record → Option Record → Change
change k before after = record { key = k; before = before; after = after } ∷ []

abbrev pub applied : ℕ → ℕ → Change → Applied
applied number session e = record { number = number; session = session; change = e }

-- the entries of these edits, each with its session and its change
abbrev pub edits : List (ℕ × Change) → List Entry
edits cs = fold (λ es c. with_entry es c.0 (Made c.1)) [] cs

-- create gate 0, create filter 3, remove filter 3
abbrev pub first_run : List Entry
first_run = edits ((1, change (Gate 0) None (Some gate)) ∷ (1, change (Filter 3) None (Some (filter 0)))
    ∷ (1, change (Filter 3) (Some (filter 0)) None) ∷ [])

abbrev pub removal : Applied
removal = applied 3 1 (change (Filter 3) (Some (filter 0)) None)

abbrev pub creation : Applied
creation = applied 2 1 (change (Filter 3) None (Some (filter 0)))

-- session 1 creates gates 0 and 1 and filter 3 on gate 0, and puts the filter on gate 1; session 2 removes gate 0
abbrev pub blocked : List Entry
blocked =
    edits ((1, change (Gate 0) None (Some gate))
    ∷ (1, change (Gate 1) None (Some gate))
    ∷ (1, change (Filter 3) None (Some (filter 0)))
    ∷ (1, change (Filter 3) (Some (filter 0)) (Some (filter 1)))
    ∷ (2, change (Gate 0) (Some gate) None)
    ∷ [])

abbrev pub replacement : Applied
replacement = applied 4 1 (change (Filter 3) (Some (filter 0)) (Some (filter 1)))

abbrev pub others_removal : Applied
others_removal = applied 5 2 (change (Gate 0) (Some gate) None)

-- a blind meter of 8 Mbit/s and this committed burst size
abbrev pub meter : ℕ → Record
meter cbs =
    MeterRecord (record { cir = 8000000; cbs = cbs; eir = 0; ebs = 0; cf = false; aware = false; drop_yellow = false; all_red = false })

-- a filter of stream handle 7 on gate 0 and a meter
abbrev pub metered : ℕ → Record
metered m = FilterRecord (record { handle = Some 7; priority = None; gate = 0; max_sdu = Some 1500; meter = Some m; oversize = true })

-- session 1 creates meter 5; session 2 creates filter 0 on it and takes it off again; session 1 creates gate 1
abbrev pub or_nothing : List Entry
or_nothing =
    edits ((1, change (Meter 5) None (Some (meter 1500)))
    ∷ (2, change (Filter 0) None (Some (metered 5)))
    ∷ (2, change (Filter 0) (Some (metered 5)) (Some (filter 0)))
    ∷ (1, change (Gate 1) None (Some gate))
    ∷ [])

-- session 2 creates meter 2, session 1 replaces it, and both take that back, session 1 first
abbrev pub both_undone : List Entry
both_undone =
    with_entry (with_entry (edits ((2, change (Meter 2) None (Some (meter 1500)))
    ∷ (1, change (Meter 2) (Some (meter 1500)) (Some (meter 900))) ∷ [])) 1
    (undone (applied 2 1 (change (Meter 2) (Some (meter 1500)) (Some (meter 900))))))
    2 (undone (applied 1 2 (change (Meter 2) None (Some (meter 1500)))))

-- the two takings back
abbrev pub replaced_back : Applied
replaced_back = applied 3 1 (change (Meter 2) (Some (meter 900)) (Some (meter 1500)))

abbrev pub created_back : Applied
created_back = applied 4 2 (change (Meter 2) (Some (meter 1500)) None)

-- session 1 creates meter 2; session 2 replaces it and takes that back; session 1 creates gate 1; the first two are settled
abbrev pub two_settled : List Entry
two_settled =
    with_entry (with_entry (with_entry
    (edits ((1, change (Meter 2) None (Some (meter 1500))) ∷ (2, change (Meter 2) (Some (meter 1500)) (Some (meter 900))) ∷ [])) 2
    (undone (applied 2 2 (change (Meter 2) (Some (meter 1500)) (Some (meter 900))))))
    1 (Made (change (Gate 1) None (Some gate)))) 3 (Settled 2)

-- what is final, what stands, and what session 2 may redo
abbrev pub final_creation : Applied
final_creation = applied 1 1 (change (Meter 2) None (Some (meter 1500)))

abbrev pub gate_creation : Applied
gate_creation = applied 4 1 (change (Gate 1) None (Some gate))

abbrev pub taken_back : Applied
taken_back = applied 3 2 (change (Meter 2) (Some (meter 900)) (Some (meter 1500)))
