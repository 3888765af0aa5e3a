-- What a port worker knows of the history at a desk, and what its calls are.
use Rattle.std.specs.Prelude.{◌≡◌, ◌⊎◌, ℕ, ◌+◌, ◌^◌, ◌≤◌, ◌<◌, ◌++◌, List, [], ◌∷◌, length, true, false, Option, Some}
use Rattle.std.specs.FinMap.{get}
use Rattle.tsn_types.specs.declared.keys.Key.TheVariants.{Port}
use Rattle.tsn_types.specs.declared.records.PortGates.{PortGates}
use Rattle.tsn_types.specs.declared.records.Record.TheVariants as records
use Rattle.tsn_types.specs.declared.refusals.Field.TheVariants as fields
use Rattle.tsn_types.specs.declared.refusals.Refusal.TheVariants as refusals
use Rattle.tsn_chain.specs.declared.state.State.TheVariants as states
use Rattle.tsn_desk.specs.declared.desk.Desk.{Desk}
use Rattle.tsn_desk.specs.declared.desk.Seat.{Seat}
use Rattle.tsn_machine.specs.declared.history.Entry.{Entry as Call}
use Rattle.tsn_desk.specs.Desks.{IsSeatOf, first_of, made, number, seen, tickets}
use Rattle.tsn_machine.specs.History.{Begins, IsLegal, Runs, call, calls_by}
use Rattle.tsn_entries.specs.declared.entries.Entry.{Entry}
use Rattle.tsn_undo.specs.Ledger.{present}
use Rattle.tsn_bridge.specs.contracts.machine.BridgeMachine.TheImpl.{ghosts}
use Rattle.tsn_commands.specs.declared.command.Ask.{Ask}
use Rattle.tsn_commands.specs.declared.command.Command.TheVariants as commands
use Rattle.tsn_commands.specs.declared.reply.Reply.{Reply}
use Rattle.tsn_commands.specs.declared.reply.Reply.TheVariants as replies
use Rattle.tsn_bridge.specs.Reached.{IsReached}
use Rattle.tsn_bridge.specs.Looking.{last_at, shown_at}
use Rattle.tsn_bridge.specs.Rule.{is_given}
use Rattle.tsn_bridge.specs.State.{State}
use Rattle.tsn_bridge.specs.Turns.{Turns}
use Rattle.tsn_port.specs.declared.worker.PortWorker.{PortWorker}
use Rattle.tsn_port.specs.declared.worker.RoundFault.{RoundFault}
use Rattle.tsn_port.specs.declared.worker.RoundFault.TheVariants as faults
use Rattle.tsn_port.specs.Histories.{IsWhole, Tells}

-- a seat of a desk whose machine is a bridge
abbrev pub BridgeSeat : Type 0
BridgeSeat = Seat State Ask Reply ghosts

-- the number of the worker's port
abbrev pub port_of : PortWorker → ℕ
port_of w = w.mirror.port

-- the history that ends with the worker's last turn
abbrev pub last_seen : PortWorker → List (Call Ask Reply)
last_seen w = seen w.last.value

-- The worker began at this desk: in each state to which the history of its last turn leads its session was given out, and its
-- mirror is the port's after the first entries; after all of them, where memory was not wanting in that turn.
pub record IsWorkerOf (desk : Desk State Ask Reply) (w : PortWorker) : Type 0 where
  pub reached : IsReached (first_of desk)
  pub low : 1 ≤ port_of w
  pub high : port_of w ≤ (first_of desk).book.limits.ports
  pub turned : length (last_seen w) ≡ w.place + 1
  pub legal : IsLegal Turns (first_of desk) (last_seen w)
  pub given : (z : State) → Runs Turns (first_of desk) (last_seen w) z → is_given z w.session ≡ true
  pub tells : Tells (first_of desk) (last_seen w) w.mirror
  pub whole : w.is_short ≡ false → IsWhole (first_of desk) (last_seen w) w.mirror

-- The seat is the desk's still, under its number. It has seen and made no less; what it has seen is legal, with just its own
-- calls under its number, where that was so.
pub record GoesOn (desk : Desk State Ask Reply) (old new : BridgeSeat) : Type 0 where
  pub own : IsSeatOf desk new
  pub number_is : number new ≡ number old
  pub seen_more : Begins (seen old) (seen new)
  pub made_more : Begins (made old) (made new)
  pub legal : IsLegal Turns (first_of desk) (seen old) → IsLegal Turns (first_of desk) (seen new)
  pub calls : calls_by (number old) (seen old) ≡ made old → calls_by (number new) (seen new) ≡ made new

-- the history is legal, and this holds of each state to which it leads
abbrev pub EndsIn : State → List (Call Ask Reply) → (State → Type 0) → Type 0
EndsIn first history P = IsLegal Turns first history × ((z : State) → Runs Turns first history z → P z)

-- a bridge in this state tells these gates of a port at an instant, which is not before the last act on it
pub record TellsGates (n t gates : ℕ) (z : State) : Type 0 where
  pub current : last_at z.book (Port n) ≤ t
  pub told : shown_at z.book (Port n) (get (present z.book) (Port n)) t ≡ Some (states.Port gates)

-- in this state the instant is past for a port: it comes before the last act on it
abbrev pub IsPast : ℕ → ℕ → State → Type 0
IsPast n t z = t < last_at z.book (Port n)

-- what a worker asks for in a turn: the entries behind its mirror's front
abbrev pub entries_behind : PortWorker → Ask
entries_behind w = record { session = w.session; command = commands.Since w.mirror.front }

-- the seat makes one call, and has then seen more
abbrev pub CallsOnce : Ask → BridgeSeat → BridgeSeat → Type 0
CallsOnce ask old new =
    ((reply : Reply) × (made new ≡ made old ++ call (number old) ask reply ∷ [])) × (length (seen old) < length (seen new))

-- In a round the seat makes one call at most, and none where nothing came since the worker's last turn and memory was not
-- wanting in that turn: with a call the history is longer by two calls at least.
abbrev pub IsRound : PortWorker → BridgeSeat → BridgeSeat → Type 0
IsRound w old new = (made new ≡ made old)
    ⊎ (((reply : Reply) × (made new ≡ made old ++ call (number old) (entries_behind w) reply ∷ []))
    × ((w.is_short ≡ true) ⊎ (w.place + 2 < length (seen new))))

-- The three calls of a worker's start: a hello by the name, a look at the port, and all entries.
pub record IsStart (name : Option (List ℕ)) (old new : BridgeSeat) (w : PortWorker) : Type 0 where
  pub greeting : Reply
  pub gives : (greeting ≡ replies.Session w.session) ⊎ (greeting ≡ replies.Known w.session)
  pub value : PortGates
  pub entries : List Entry
  pub calls : made new ≡ made old
      ++ call (number old) (record { session = 0; command = commands.Hello name }) greeting
      ∷ call (number old) (record { session = w.session; command = commands.Show (Port (port_of w)) })
      (replies.Shown (Port (port_of w)) (records.Port value))
      ∷ call (number old) (record { session = w.session; command = commands.Since 0 }) (replies.Entries entries)
      ∷ []

-- Why a worker does not start. It is refused where no session is left (4, field `session`) or its port is over the limits (4,
-- field `key`), or no ticket is left, or memory was wanting.
abbrev pub IsStartFault : Desk State Ask Reply → ℕ → RoundFault → BridgeSeat → Type 0
IsStartFault desk n faults.Past new = ⊥
IsStartFault desk n faults.Memory new = Unit {0}
IsStartFault desk n faults.Exhausted new = 2 ^ 63 ≤ tickets new
IsStartFault desk n (faults.Refused why) new =
    (why ≡ refusals.Range fields.Session) ⊎ ((why ≡ refusals.Range fields.Key) × ((first_of desk).book.limits.ports < n))
