-- Journals of worked examples at the whole bridge, by hand: an undo of all that keeps another session's edits, a list that
-- is restored and applied again, and a stream gate whose list runs.
use Rattle.std.specs.Prelude.{ℕ, false, true, List, [], ◌∷◌, Option, Some, None, map, codes}
use Rattle.std.specs.List.{fold}
use Rattle.std.specs.FinMap.{insert}
use Rattle.tsn_types.specs.declared.keys.Key.TheVariants.{Filter, Gate, Port}
use Rattle.tsn_types.specs.declared.records.PortEntry.{PortEntry}
use Rattle.tsn_types.specs.declared.records.Record.{Record}
use Rattle.tsn_types.specs.declared.records.Record.TheVariants as records
use Rattle.tsn_types.specs.Examples.{gate_with}
use Rattle.tsn_config.specs.Opening.{default_port, opening}
use Rattle.tsn_schedule.specs.Examples.{gate_acts, gate_list, one_two, open_shut, plan}
use Rattle.tsn_chain.specs.declared.state.State.{State as Shown}
use Rattle.tsn_chain.specs.Examples.{Coming, filter_0, frame_of, left_by, no_meter}
use Rattle.tsn_chain.specs.Following.{frames_after}
use Rattle.tsn_chain.specs.Instances.{FrameData}
use Rattle.tsn_entries.specs.declared.entries.Act.TheVariants as asked
use Rattle.tsn_entries.specs.declared.entries.Entry.{Entry}
use Rattle.tsn_entries.specs.declared.entries.What.{What}
use Rattle.tsn_entries.specs.declared.entries.What.TheVariants.{Acted, Made, Undone}
use Rattle.tsn_entries.specs.Entries.{Applied, with_entry}
use Rattle.tsn_undo.specs.Examples.{change, edits, filter, gate}
use Rattle.tsn_undo.specs.Ledger.{Ledger}
use Rattle.tsn_bridge.specs.Beginning.{standard}
use Rattle.tsn_config.specs.Opening.{standard_limits}
use Rattle.tsn_commands.specs.declared.reply.Reply.{Reply}
use Rattle.tsn_bridge.specs.Frames.{frame_rule}
use Rattle.tsn_bridge.specs.Looking.{shown_at}
use Rattle.tsn_bridge.specs.State.{State}

-- the entries of these, each with its session
abbrev pub entered : List (ℕ × What) → List Entry
entered ws = fold (λ es w. with_entry es w.0 w.1) [] ws

-- a journal of a bridge of which nothing was said
abbrev pub book_of : List Entry → Ledger
book_of es = record { limits = standard_limits; opening = opening standard_limits []; entries = es }

abbrev pub numbers : List Applied → List ℕ
numbers xs = map (λ x. x.number) xs

-- ---- session 1 creates gate 1 and filter 0 on it, session 2 gate 2 and filter 1 on it, in turns

abbrev pub in_turns : List Entry
in_turns = edits ((1, change (Gate 1) None (Some gate)) ∷ (2, change (Gate 2) None (Some gate))
    ∷ (1, change (Filter 0) None (Some (filter 1))) ∷ (2, change (Filter 1) None (Some (filter 2))) ∷ [])

-- both sessions are given out, and the second goes by a name
abbrev pub two_sessions : State
two_sessions = record standard { book = book_of in_turns; sessions = 2; names = record { session = 2; name = codes "anna" } ∷ [] }

-- session 1 took its two edits back, the newest first
abbrev pub one_left : List Entry
one_left =
    with_entry (with_entry in_turns 1 (Undone 3 (change (Filter 0) (Some (filter 1)) None))) 1 (Undone 1 (change (Gate 1) (Some gate) None))

-- ---- a port's list is changed while it runs, and changed back, and then applied again

abbrev pub port : List PortEntry → ℕ → Record
port list base = records.Port (record { gates = 255; admin = plan list 1000 0 base })

abbrev pub put_back : List Entry
put_back =
    entered ((1, Made (change (Port 1) (Some default_port) (Some (port one_two 0))))
    ∷ (1, Acted asked.Enable (Port 1) 0)
    ∷ (1, Acted asked.Apply (Port 1) 2500)
    ∷ (1, Made (change (Port 1) (Some (port one_two 0)) (Some (port open_shut 0))))
    ∷ (1, Acted asked.Apply (Port 1) 5000)
    ∷ (1, Undone 4 (change (Port 1) (Some (port open_shut 0)) (Some (port one_two 0))))
    ∷ (1, Acted asked.Apply (Port 1) 9001)
    ∷ [])

-- and then its base is moved ahead, and the list applied just there
abbrev pub put_ahead : List Entry
put_ahead = with_entry (with_entry put_back 1 (Made (change (Port 1) (Some (port one_two 0)) (Some (port one_two 12000))))) 1
    (Acted asked.Apply (Port 1) 12000)

-- what the port shows at some instants
abbrev pub shows : List Entry → Record → List ℕ → List (Option Shown)
shows es r ts = map (λ t. shown_at (book_of es) (Port 1) (Some r) t) ts

-- ---- the list of a closed stream gate is enabled and applied at 0, and frames of any stream meet it

-- it closes for good after a frame with more octets than the interval has left
abbrev pub closed_gate : Record
closed_gate = records.Gate (gate_with false true gate_list 2000)

abbrev pub any_stream : Record
any_stream = records.Filter (record { handle = None; priority = None; gate = 0; max_sdu = None; meter = None; oversize = false })

abbrev pub gate_runs : List Entry
gate_runs =
    entered ((1, Made (change (Gate 0) None (Some closed_gate)))
    ∷ (1, Made (change (Filter 0) None (Some any_stream)))
    ∷ (1, Acted asked.Enable (Gate 0) 0)
    ∷ (1, Acted asked.Apply (Gate 0) 0)
    ∷ [])

-- what is kept of new instances, and after these frames
abbrev pub rows_new : FrameData
rows_new =
    frames_after 0 (frames_after 0 standard.frames (change (Gate 0) None (Some closed_gate))) (change (Filter 0) None (Some any_stream))

abbrev pub rows_after : List Coming → FrameData → FrameData
rows_after fs f =
    let left = left_by (filter_0 true gate_acts) no_meter fs in
    record f { filters = insert f.filters 0 left.filter; gates = insert f.gates 0 left.gate }

abbrev pub with_rows : ℕ → FrameData → State
with_rows time f = record { book = book_of gate_runs; sessions = 1; names = []; time = time; frames = f }

-- what a frame is answered, and the state after it
abbrev pub answers : State → Coming → Option (Reply × State)
answers s x = (frame_rule s 1 (record { handle = 7; priority = 2; octets = x.octets; yellow = false }) x.time).done

abbrev pub rows_1 : FrameData
rows_1 = rows_after (frame_of 10 100 ∷ []) rows_new

abbrev pub rows_2 : FrameData
rows_2 = rows_after (frame_of 10 100 ∷ frame_of 20 60 ∷ []) rows_1

abbrev pub rows_3 : FrameData
rows_3 = rows_after (frame_of 10 100 ∷ frame_of 20 60 ∷ frame_of 2010 10 ∷ []) rows_2
