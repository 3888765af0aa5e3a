-- What is told of command lines that are looked at, and not answered.
use Rattle.std.specs.Prelude.{◌≡◌, ◌⊎◌, ℕ, ◌+◌, ◌^◌, ◌-◌, ◌≤◌, nat_eq, List, [], ◌++◌, if◌then◌else◌, Option, Some, None, Result, Ok, Err, codes, decimal}
use Rattle.tsn_types.specs.declared.refusals.Refusal.{Refusal}
use Rattle.tsn_types.specs.Refusals.{name_of, number_of}
use Rattle.tsn_bytes.specs.declared.bytes.Fault.{Fault}
use Rattle.tsn_bytes.specs.declared.bytes.Fault.TheVariants.{Exhausted, Write}
use Rattle.tsn_commands.specs.declared.command.Ask.{Ask}
use Rattle.tsn_serve.specs.Answers.{MayRead}
use Rattle.tsn_serve.specs.Outcomes.{Moment, Outcome, most_reads}
use Rattle.tsn_serve.specs.Script.{Answering, Breaking, IsFront}
use Rattle.tsn_failures.specs.Failures.{failure_line}
use Rattle.tsn_failures.specs.Output.{IsSilent, Output, Tells}
use Rattle.tsn_failures.specs.declared.failures.Failure.TheVariants as failures

-- How many lines there were, and how many of them can't be asked.
pub record Looked : Type 0 where
  pub lines : ℕ
  pub refused : ℕ

-- `line N: refused C name`: which line it is, and why
abbrev pub cause_text : ℕ → Refusal → List ℕ
cause_text n why = codes "line " ++ decimal n ++ codes ": refused " ++ decimal (number_of why) ++ codes " " ++ name_of why

-- why a line can't be asked, by what it reads as
abbrev pub why_of : Result Ask Refusal → Option Refusal
why_of (Ok ask) = None
why_of (Err why) = Some why

-- A line can't be asked for this cause, or for none: it may read so.
abbrev pub WhyNot : Option (List ℕ) → Option Refusal → Type 0
WhyNot line cause = (read : Result Ask Refusal) × MayRead line read × (cause ≡ why_of read)

-- Nothing is told of a line that may be asked; of another one, which line it is and why, and behind that words on the spot, of
-- which nothing is said here.
abbrev pub IsTold : ℕ → Option Refusal → List ℕ → Type 0
IsTold n None text = text ≡ []
IsTold n (Some why) text = (spot : List ℕ) × (text ≡ cause_text n why ++ (spot ++ codes "\n"))

-- one line more, which may be asked or not
abbrev pub counted_in : Looked → Option Refusal → Looked
counted_in old None = record { lines = old.lines + 1; refused = old.refused }
counted_in old (Some why) = record { lines = old.lines + 1; refused = old.refused + 1 }

-- A line is told of by its cause.
abbrev pub LooksAt : Answering Looked
LooksAt old line text new = (cause : Option Refusal) × WhyNot line cause × IsTold (old.lines + 1) cause text × (new ≡ counted_in old cause)

-- A look breaks off where the writer failed, or where the lines can't be numbered any more.
abbrev pub BreaksLooking : Breaking Looked
BreaksLooking old line fault part new =
    ((fault ≡ Write) × ((text : List ℕ) × LooksAt old line text new × IsFront part text))
    ⊎ ((fault ≡ Exhausted) × (old.lines ≡ 2 ^ 64 - 1) × (part ≡ []) × (new ≡ old))

-- The status of a run: 0 where every line can be asked, and 1 where one can't, or where the run failed, which is told.
abbrev pub LineStatus : Looked → Result (Unit {0}) Fault → ℕ → Output → Type 0
LineStatus end (Ok u) status errors = (status ≡ (if nat_eq end.refused 0 then 0 else 1)) × IsSilent errors
LineStatus end (Err fault) status errors = (status ≡ 1) × Tells errors (failure_line (failures.Fault fault))

-- All lines of the input are looked at.
abbrev pub ChecksLines : (Looked → Moment Looked) → (Looked → Moment Looked) → ℕ → Output → Type 0
ChecksLines old new status errors =
    (end : Looked) × (outcome : Result (Unit {0}) Fault)
    × Outcome LooksAt BreaksLooking most_reads (old (record { lines = 0; refused = 0 })) (new end) outcome
    × LineStatus end outcome status errors
