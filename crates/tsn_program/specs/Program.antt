-- What a run of the program does to its input, its output and its errors, and the status that it ends with.
use Rattle.std.specs.Prelude.{◌≡◌, ◌⊎◌, ℕ, List, [], true, Some, None, Result, Ok, Err, string_bytes}
use Rattle.std.specs.Io.KnownBytes.{Appends}
use Rattle.tsn_types.specs.declared.refusals.Refusal.{Refusal}
use Rattle.tsn_records.specs.Answers.{IsOrMemory}
use Rattle.tsn_bytes.specs.declared.bytes.Fault.TheVariants.{Memory, Write}
use Rattle.tsn_bridge.specs.State.{State}
use Rattle.tsn_bridge.specs.Beginning.{standard}
use Rattle.tsn_serve.specs.Answers.{Answers, BreaksInWriting}
use Rattle.tsn_serve.specs.Outcomes.{Moment, Outcome, most_reads}
use Rattle.tsn_program.specs.Checking.{told}
use Rattle.tsn_failures.specs.Output.{Output, Reports, Shows, Tells}
use Rattle.tsn_program.specs.Listing.{Enables, EnablesNot, EndsEarly, lines, listing_refusal}
use Rattle.tsn_initial.specs.Opening.{opened}
use Rattle.tsn_words.specs.declared.arguments.Asked.{Asked}
use Rattle.tsn_words.specs.declared.arguments.Asked.TheVariants.{Script, States, Serve, Check, Lines, Journal, Shown, Refused}
use Rattle.tsn_words.specs.declared.arguments.Listing.{Listing}
use Rattle.tsn_failures.specs.declared.failures.Failure.{Failure}
use Rattle.tsn_failures.specs.declared.failures.Failure.TheVariants as failures

-- The text opens this state, or is refused so; want of memory stands in place of either.
abbrev pub Opens : List ℕ → Result State Refusal → Type 0
Opens text start = IsOrMemory start (opened text)

-- A script is answered from the state that the setup opens; where it opens none, nothing is read or written.
abbrev pub AnswersFrom : Result State Refusal → (State → Moment State) → (State → Moment State) → Result (Unit {0}) Failure → Type 0
AnswersFrom (Ok start) old new (Ok u) = (end : State) × Outcome Answers BreaksInWriting most_reads (old start) (new end) (Ok u)
AnswersFrom (Ok start) old new (Err (failures.Fault fault)) =
    (end : State) × Outcome Answers BreaksInWriting most_reads (old start) (new end) (Err fault)
AnswersFrom (Ok start) old new (Err (failures.Refused why)) = ⊥
AnswersFrom (Ok start) old new (Err failures.Setup) = ⊥
AnswersFrom (Err why) old new outcome = (outcome ≡ Err (failures.Refused why)) × (new standard ≡ old standard)

abbrev pub AnswersScript : List ℕ → (State → Moment State) → (State → Moment State) → Result (Unit {0}) Failure → Type 0
AnswersScript setup old new outcome = (start : Result State Refusal) × Opens setup start × AnswersFrom start old new outcome

-- The states that this state shows were printed, and handed on.
abbrev pub PrintsAll : State → Listing → Output → Type 0
PrintsAll s x output = Appends output.old output.new (lines s x x.count) × (output.held_back ≡ [])

-- The writer failed: in a line, or when it was to hand on what it held back.
abbrev pub PrintsFront : State → Listing → Output → Failure → Type 0
PrintsFront s x output failure =
    (failure ≡ failures.Fault Write)
    × (output.failed ≡ true)
    × (EndsEarly s x output.old output.new ⊎ Appends output.old output.new (lines s x x.count))

-- Nothing was printed, for a port or an instant outside the limits, or since the port was not enabled or its list not applied.
abbrev pub PrintsNothing : State → Listing → Output → Refusal → Type 0
PrintsNothing s x output why =
    (output.new ≡ output.old)
    × ((listing_refusal s.book.limits x ≡ Some why) ⊎ ((listing_refusal s.book.limits x ≡ None) × EnablesNot s x.port x.from why))

-- The states of a port from the state that a setup opens. Where it opens none, nothing is printed.
abbrev pub PrintsFrom : Result State Refusal → Listing → Output → Result (Unit {0}) Failure → Type 0
PrintsFrom (Err why) x output outcome = (outcome ≡ Err (failures.Refused why)) × (output.new ≡ output.old)
PrintsFrom (Ok start) x output (Ok u) =
    (listing_refusal start.book.limits x ≡ None)
    × ((shown : State) × Enables start x.port x.from shown × PrintsAll shown x output)
PrintsFrom (Ok start) x output (Err failure) =
    ((why : Refusal) × (failure ≡ failures.Refused why) × PrintsNothing start x output why)
    ⊎ ((listing_refusal start.book.limits x ≡ None)
    × ((shown : State) × Enables start x.port x.from shown × PrintsFront shown x output failure))

abbrev pub PrintsStates : List ℕ → Listing → Output → Result (Unit {0}) Failure → Type 0
PrintsStates setup x output outcome = (start : Result State Refusal) × Opens setup start × PrintsFrom start x output outcome

-- What is told of an output between two moments.
abbrev pub output_of : Moment State → Moment State → Output
output_of old new = record { old = old.taken; new = new.taken; held_back = new.held_back; failed = new.writer_failed }

-- A script was answered, and how that ended is told.
abbrev pub ServesScript : List ℕ → (State → Moment State) → (State → Moment State) → ℕ → Output → Type 0
ServesScript setup old new status errors =
    (outcome : Result (Unit {0}) Failure)
    × AnswersScript setup old new outcome
    × Reports outcome status errors

-- The states of a port were printed, and how that ended is told.
abbrev pub ServesStates : Listing → List ℕ → Output → ℕ → Output → Type 0
ServesStates x setup output status errors =
    (outcome : Result (Unit {0}) Failure)
    × PrintsStates setup x output outcome
    × Reports outcome status errors

-- What there is was shown; or nothing was, since memory was wanting.
abbrev pub ShowsSummary : State → Output → Result (Unit {0}) Failure → Type 0
ShowsSummary s output outcome =
    Shows output (told s) outcome
    ⊎ ((outcome ≡ Err (failures.Fault Memory)) × (output.new ≡ output.old))

-- What came behind a moment of an output.
abbrev pub since : Output → Output → Output
since before after = record { old = before.new; new = after.new; held_back = after.held_back; failed = after.failed }

-- A setup that opens no bridge ends with status 1 and its line, as each failure does; then a text was told, which may say where
-- it is at fault.
abbrev pub TellsFault : Refusal → ℕ → Output → Type 0
TellsFault why status errors =
    (told : Output)
    × (told.old ≡ errors.old)
    × Reports (Err (failures.Refused why)) status told
    × ((spot : List ℕ) × Tells (since told errors) spot)

-- Of a bridge that opens it was told what it has.
abbrev pub ChecksFrom : Result State Refusal → Output → ℕ → Output → Type 0
ChecksFrom (Ok start) output status errors =
    (outcome : Result (Unit {0}) Failure)
    × ShowsSummary start output outcome
    × Reports outcome status errors
ChecksFrom (Err why) output status errors = (output.new ≡ output.old) × TellsFault why status errors

-- A setup was looked at, and how that ended is told: with status 0 where it opens a bridge, unless memory was wanting or the
-- writer failed, and with status 1 where it opens none.
abbrev pub ServesCheck : List ℕ → Output → ℕ → Output → Type 0
ServesCheck setup output status errors = (start : Result State Refusal) × Opens setup start × ChecksFrom start output status errors

-- A text was shown, and how that ended is told.
abbrev pub ServesText : List ℕ → Output → ℕ → Output → Type 0
ServesText text output status errors =
    (outcome : Result (Unit {0}) Failure)
    × Shows output text outcome
    × Reports outcome status errors

-- Words were refused: with status 2, and their text.
abbrev pub RefusesWords : List ℕ → ℕ → Output → Type 0
RefusesWords text status errors = (status ≡ 2) × Tells errors text

-- No read was made.
abbrev pub ReadsNothing : Moment State → Moment State → Type 0
ReadsNothing old new = (new.left ≡ old.left) × (new.calls ≡ old.calls)

-- What is asked for needs no connection, and no journal's file.
abbrev pub IsAlone : Asked → Type 0
IsAlone (Script file None) = Unit {0}
IsAlone (Script file (Some journal)) = ⊥
IsAlone (States file listing) = Unit {0}
IsAlone (Serve file listen serving kept) = ⊥
IsAlone (Check file) = Unit {0}
IsAlone Lines = ⊥
IsAlone (Journal file look) = ⊥
IsAlone (Shown text) = Unit {0}
IsAlone (Refused text) = Unit {0}

-- What was asked for was done: a script is answered, states are printed, or it is told what there is, from the setup's bridge;
-- a text is shown; or words are refused. No input is read but that of a script, and nothing is written where words are refused.
abbrev pub Serves : Asked → List ℕ → (State → Moment State) → (State → Moment State) → ℕ → Output → Type 0
Serves (Script file None) setup old new status errors = ServesScript setup old new status errors
Serves (Script file (Some journal)) setup old new status errors = ⊥
Serves (States file listing) setup old new status errors =
    ReadsNothing (old standard) (new standard)
    × ServesStates listing setup (output_of (old standard) (new standard)) status errors
Serves (Serve file listen serving kept) setup old new status errors = ⊥
Serves (Check file) setup old new status errors =
    ReadsNothing (old standard) (new standard)
    × ServesCheck setup (output_of (old standard) (new standard)) status errors
Serves Lines setup old new status errors = ⊥
Serves (Journal file look) setup old new status errors = ⊥
Serves (Shown text) setup old new status errors =
    ReadsNothing (old standard) (new standard)
    × ServesText (string_bytes text) (output_of (old standard) (new standard)) status errors
Serves (Refused text) setup old new status errors =
    (new standard ≡ old standard) × RefusesWords (string_bytes text) status errors
