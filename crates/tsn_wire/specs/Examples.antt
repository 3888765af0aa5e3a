-- Worked examples: the line that creates a record, lines of batches, records that are refused, and the line of a frame.
use Rattle.std.specs.Prelude.{ℕ, List, true, ◌++◌, Result, Ok, codes}
use Rattle.tsn_commands.specs.declared.command.Command.TheVariants.{Batch, Create}
use Rattle.tsn_chain.specs.declared.frame.Frame.{Frame}
use Rattle.tsn_edit.specs.declared.Edit.{Edit}
use Rattle.tsn_types.specs.declared.keys.Key.{Key}
use Rattle.tsn_types.specs.declared.records.Record.{Record}
use Rattle.tsn_types.specs.declared.refusals.Refusal.{Refusal}
use Rattle.tsn_commands.specs.declared.command.Ask.{Ask}

-- the line that creates the record of a text, in session 1
abbrev pub create_line : List ℕ → List ℕ → List ℕ
create_line key text = codes "{\"do\":\"create\",\"key\":\"" ++ key ++ codes "\",\"record\":" ++ text ++ codes ",\"s\":1}"

-- what that line says
abbrev pub created : Key → Record → Result Ask Refusal
created key value = Ok (record { session = 1; command = Create key value })

-- an edit of a batch that creates the record of a text, and one that removes a key
abbrev pub creation_text : List ℕ → List ℕ → List ℕ
creation_text key text = codes "{\"do\":\"create\",\"key\":\"" ++ key ++ codes "\",\"record\":" ++ text ++ codes "}"

abbrev pub removal_text : List ℕ → List ℕ
removal_text key = codes "{\"do\":\"remove\",\"key\":\"" ++ key ++ codes "\"}"

-- the line of a batch of such edits, in session 1
abbrev pub batch_line : List ℕ → List ℕ
batch_line edits = codes "{\"do\":\"batch\",\"edits\":[" ++ edits ++ codes "],\"s\":1}"

-- what that line says
abbrev pub batched : List Edit → Result Ask Refusal
batched edits = Ok (record { session = 1; command = Batch edits })

-- as many edits as a batch may have, and one more
abbrev pub sixteen_removals : List ℕ
sixteen_removals =
    removal_text (codes "gate 0") ++ codes "," ++ removal_text (codes "gate 1") ++ codes "," ++ removal_text (codes "gate 2") ++ codes ","
    ++ removal_text (codes "gate 3")
    ++ codes "," ++ removal_text (codes "gate 4") ++ codes "," ++ removal_text (codes "gate 5") ++ codes ","
    ++ removal_text (codes "gate 6") ++ codes "," ++ removal_text (codes "gate 7")
    ++ codes "," ++ removal_text (codes "meter 0") ++ codes "," ++ removal_text (codes "meter 1") ++ codes ","
    ++ removal_text (codes "meter 2") ++ codes "," ++ removal_text (codes "meter 3")
    ++ codes "," ++ removal_text (codes "meter 4") ++ codes "," ++ removal_text (codes "meter 5") ++ codes ","
    ++ removal_text (codes "meter 6") ++ codes "," ++ removal_text (codes "meter 7")

abbrev pub seventeen_removals : List ℕ
seventeen_removals = sixteen_removals ++ codes "," ++ removal_text (codes "filter 0")

-- a gate in that state, whose cycle time is out of range
abbrev pub no_cycle_in : List ℕ → List ℕ
no_cycle_in state = codes "{\"base\":0,\"cycle\":0,\"extension\":0,\"invalid_rx\":false,\"ipv\":null,"
    ++ codes "\"list\":[],\"octets_exceeded\":false,\"open\":" ++ state ++ codes "}"

abbrev pub no_cycle_text : List ℕ
no_cycle_text = no_cycle_in (codes "true")

-- the same, and the state is no flag
abbrev pub no_flag_text : List ℕ
no_flag_text = no_cycle_in (codes "1")

-- the line that hands in a frame of that length, priority and drop eligibility, in session 1
abbrev pub frame_line : List ℕ → List ℕ → List ℕ → List ℕ
frame_line octets priority yellow =
    codes "{\"do\":\"frame\",\"handle\":7,\"now\":1000,\"octets\":" ++ octets ++ codes ",\"priority\":" ++ priority
    ++ codes ",\"s\":1,\"yellow\":" ++ yellow ++ codes "}"

abbrev pub a_frame : Frame
a_frame = record { handle = 7; priority = 5; octets = 1500; yellow = true }
