-- The calls of a worker, one by one.
use Rattle.std.specs.Prelude.{◌≡◌, ◌⊎◌, ℕ, ◌≤◌, ◌++◌, List, [], ◌∷◌, true, Option, Some}
use Rattle.std.specs.FinMap.{get}
use Rattle.tsn_types.specs.declared.keys.Key.TheVariants.{Port}
use Rattle.tsn_types.specs.declared.records.PortGates.{PortGates}
use Rattle.tsn_types.specs.declared.records.Record.TheVariants as records
use Rattle.tsn_types.specs.declared.refusals.Field.TheVariants as fields
use Rattle.tsn_types.specs.declared.refusals.Refusal.TheVariants as refusals
use Rattle.tsn_desk.specs.declared.desk.Desk.{Desk}
use Rattle.tsn_machine.specs.declared.history.Entry.{Entry as Call}
use Rattle.tsn_desk.specs.Desks.{HasTurned, first_of, made, number, seen}
use Rattle.tsn_machine.specs.History.{IsLegal, Runs, call}
use Rattle.tsn_entries.specs.declared.entries.Entry.{Entry}
use Rattle.tsn_undo.specs.Ledger.{present}
use Rattle.tsn_commands.specs.declared.command.Ask.{Ask}
use Rattle.tsn_commands.specs.declared.command.Command.TheVariants as commands
use Rattle.tsn_commands.specs.declared.reply.Reply.{Reply}
use Rattle.tsn_commands.specs.declared.reply.Reply.TheVariants as replies
use Rattle.tsn_bridge.specs.Rule.{is_given}
use Rattle.tsn_bridge.specs.State.{State}
use Rattle.tsn_bridge.specs.Turns.{Turns}
use Rattle.tsn_port.specs.Workers.{BridgeSeat}

-- in each state to which the history leads the session was given out
abbrev pub IsGivenIn : State → List (Call Ask Reply) → ℕ → Type 0
IsGivenIn first history n = (z : State) → Runs Turns first history z → is_given z n ≡ true

-- what a worker asks for
abbrev pub hello : Option (List ℕ) → Ask
hello name = record { session = 0; command = commands.Hello name }

abbrev pub look_at : ℕ → ℕ → Ask
look_at session n = record { session = session; command = commands.Show (Port n) }

abbrev pub since : ℕ → ℕ → Ask
since session after = record { session = session; command = commands.Since after }

-- a reply gives this session: a new one, or the one that goes by the name
abbrev pub Gives : Reply → ℕ → Type 0
Gives r n = (r ≡ replies.Session n) ⊎ (r ≡ replies.Known n)

-- what a hello may be answered
abbrev pub AnswersHello : Reply → Type 0
AnswersHello r = ((n : ℕ) × Gives r n) ⊎ ((r ≡ replies.Refused refusals.Memory) ⊎ (r ≡ replies.Refused (refusals.Range fields.Session)))

-- what a look at a port may be answered
abbrev pub AnswersLook : ℕ → Reply → Type 0
AnswersLook n r = ((p : PortGates) × (r ≡ replies.Shown (Port n) (records.Port p)))
    ⊎ ((r ≡ replies.Refused refusals.Memory) ⊎ (r ≡ replies.Refused (refusals.Range fields.Key)))

-- what a question for entries may be answered, of a session that was given out
abbrev pub AnswersSince : Reply → Type 0
AnswersSince r = ((entries : List Entry) × (r ≡ replies.Entries entries)) ⊎ (r ≡ replies.Refused refusals.Memory)

-- the seat said hello and was given this session
pub record SaidHello (desk : Desk State Ask Reply) (old : BridgeSeat) (name : Option (List ℕ)) (n : ℕ) (new : BridgeSeat) : Type 0 where
  pub legal : IsLegal Turns (first_of desk) (seen new)
  pub reply : Reply
  pub gives : Gives reply n
  pub call_is : made new ≡ made old ++ call (number old) (hello name) reply ∷ []
  pub given : IsGivenIn (first_of desk) (seen new) n

-- the seat looked at a port within the limits and was shown this record of it, which it has in each state to which the
-- history then seen leads
pub record Looked (desk : Desk State Ask Reply) (old : BridgeSeat) (session n : ℕ) (value : PortGates) (new : BridgeSeat) : Type 0 where
  pub legal : IsLegal Turns (first_of desk) (seen new)
  pub call_is : made new ≡ made old ++ call (number old) (look_at session n) (replies.Shown (Port n) (records.Port value)) ∷ []
  pub given : IsGivenIn (first_of desk) (seen new) session
  pub within : n ≤ (first_of desk).book.limits.ports
  pub stands : (z : State) → Runs Turns (first_of desk) (seen new) z → get (present z.book) (Port n) ≡ Some (records.Port value)

-- the seat asked for the entries of a greater number, and was told these
pub record HasRead (desk : Desk State Ask Reply) (old : BridgeSeat) (session after : ℕ) (entries : List Entry) (place : ℕ)
    (new : BridgeSeat) : Type 0 where
  pub turned : HasTurned Turns desk old (since session after) place (replies.Entries entries) new
  pub given : IsGivenIn (first_of desk) (seen new) session
