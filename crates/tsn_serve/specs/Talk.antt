-- What a connection does with its lines: each is answered by a call of its seat, or refused with no call.
use Rattle.std.specs.Prelude.{◌≡◌, ◌⊎◌, ℕ, ◌≤◌, ◌^◌, List, [], ◌∷◌, ◌++◌, Option, Some, None, IfNone, Result, Ok, Err, ⊤}
use Rattle.tsn_machine.specs.declared.history.Entry.{Entry}
use Rattle.tsn_desk.specs.declared.desk.Seat.{Seat}
use Rattle.tsn_desk.specs.declared.desk.Desk.{Desk}
use Rattle.tsn_machine.specs.History.{Begins, IsLegal, calls_by, call}
use Rattle.tsn_desk.specs.Desks.{seen, made, number, tickets, first_of, DeskId, id_of}
use Rattle.tsn_types.specs.declared.refusals.Refusal.{Refusal}
use Rattle.tsn_types.specs.declared.refusals.Refusal.TheVariants as refusals
use Rattle.tsn_bytes.specs.declared.bytes.Fault.TheVariants.{Exhausted}
use Rattle.tsn_bridge.specs.State.{State}
use Rattle.tsn_bridge.specs.Turns.{Turns}
use Rattle.tsn_commands.specs.declared.command.Ask.{Ask}
use Rattle.tsn_commands.specs.declared.command.Command.{Command}
use Rattle.tsn_commands.specs.declared.command.Command.TheVariants as commands
use Rattle.tsn_commands.specs.declared.reply.Reply.{Reply}
use Rattle.tsn_commands.specs.declared.reply.Reply.TheVariants as replies
use Rattle.tsn_serve.specs.Script.{Answering, Breaking}
use Rattle.tsn_serve.specs.Answers.{MayRead, Replies, SaysText, CutsText}

-- One end of a connection: the desk and the machine that it began with; the seat's number, what it has seen of the
-- history, the calls that it has made and how many tickets it has seen drawn; and the session of the connection's
-- latest hello or resume.
pub record Caller : Type 0 where
  pub desk : DeskId
  pub first : State
  pub number : ℕ
  pub seen : List (Entry Ask Reply)
  pub made : List (Entry Ask Reply)
  pub tickets : ℕ
  pub latest : Option ℕ

-- a seat of a desk as one end of a connection
abbrev pub caller_of : {D : _} → Desk State Ask Reply → Seat State Ask Reply D → Option ℕ → Caller
caller_of desk seat latest = record {
  desk = id_of desk;
  first = first_of desk;
  number = number seat;
  seen = seen seat;
  made = made seat;
  tickets = tickets seat;
  latest = latest;
}

-- a hello or a resume: a connection acts as the session of its latest one alone
abbrev pub TakesUp : Command → Type 0
TakesUp (commands.Hello name) = ⊤
TakesUp commands.Resume = ⊤
TakesUp command = ⊥

-- the command is such a one, or of the session of the connection's latest one
abbrev pub MayAsk : Option ℕ → Ask → Type 0
MayAsk latest ask = TakesUp ask.command ⊎ (latest ≡ Some ask.session)

-- the session of the latest hello or resume: a reply that gives a session is the reply to one
abbrev pub latest_after : Option ℕ → Reply → Option ℕ
latest_after latest (replies.Session n) = Some n
latest_after latest (replies.Known n) = Some n
latest_after latest _ = latest

-- The seat makes one call. The history then seen is legal, begins with what was seen and ends with that call; of the
-- calls of the seat's number it has those that the seat had made and this one.
pub record Calls (old : Caller) (ask : Ask) (reply : Reply) (new : Caller) : Type 0 where
  pub before : List (Entry Ask Reply)
  pub begins : Begins old.seen before
  pub whole : new.seen ≡ before ++ call old.number ask reply ∷ []
  pub legal : IsLegal Turns old.first new.seen
  pub own : new.made ≡ old.made ++ call old.number ask reply ∷ []
  pub all_own : calls_by old.number new.seen ≡ new.made
  pub same : (new.desk ≡ old.desk) × (new.first ≡ old.first) × (new.number ≡ old.number)
  pub latest : new.latest ≡ latest_after old.latest reply

-- The reply to a command: that of the seat's call, where it is a hello or a resume or of the latest session; else
-- refusal 5, with no call.
abbrev pub Asks : Caller → Ask → Reply → Caller → Type 0
Asks old ask reply new =
    (MayAsk old.latest ask × Calls old ask reply new)
    ⊎ ((MayAsk old.latest ask → ⊥) × (reply ≡ replies.Refused refusals.NoSession) × (new ≡ old))

-- What the witness says, if there was a call, it says of what the line was read as and of the reply to it.
abbrev pub IsMarked : {K : Type 0} → (Ask → Reply → K → Type 0) → Result Ask Refusal → Reply → Option K → Type 0
IsMarked marks read reply None = Unit {0}
IsMarked marks (Ok ask) reply (Some mark) = marks ask reply mark
IsMarked marks (Err why) reply (Some mark) = ⊥

-- A line has this reply, and the witness says this of the call for it; nothing only where there was no call.
abbrev pub Told : {K : Type 0} → (Ask → Reply → K → Type 0) → Caller → Option (List ℕ) → Reply → Option K → Caller → Type 0
Told marks old line reply mark new =
    (read : Result Ask Refusal) × MayRead line read × Replies Asks old read reply new × IsMarked marks read reply mark
    × IfNone mark (new ≡ old)

-- What may be written for a line of the connection.
abbrev pub Talks : Answering Caller
Talks old line text new = SaysText Asks old line text new

-- No ticket was left for the call of the command that was read. Of the seat only the number of tickets that it has seen
-- is new.
pub record Tires (old : Caller) (read : Result Ask Refusal) (new : Caller) : Type 0 where
  pub ask : Ask
  pub is_read : read ≡ Ok ask
  pub may : MayAsk old.latest ask
  pub none_left : 2 ^ 63 ≤ new.tickets
  pub same : new ≡ record old { tickets = new.tickets }

-- An answer breaks off where the writer failed in its text; or where no ticket was left, and then nothing of it is
-- written.
abbrev pub BreaksTalk : Breaking Caller
BreaksTalk old line fault part new =
    CutsText Asks old line fault part new
    ⊎ ((fault ≡ Exhausted) × (part ≡ []) × ((read : Result Ask Refusal) × MayRead line read × Tires old read new))

-- What calls do to a caller: under its number, at its desk, it has seen and made no less; and what it has seen is legal,
-- with just its own calls of its number, where that was so before.
pub record Goes (old new : Caller) : Type 0 where
  pub desk : new.desk ≡ old.desk
  pub first : new.first ≡ old.first
  pub number : new.number ≡ old.number
  pub seen : Begins old.seen new.seen
  pub made : Begins old.made new.made
  pub legal : IsLegal Turns old.first old.seen → IsLegal Turns new.first new.seen
  pub own : calls_by old.number old.seen ≡ old.made → calls_by new.number new.seen ≡ new.made
