-- Lists of commands given to the machine by sessions, and where they lead.
use Rattle.std.specs.Prelude.{◌≡◌, true, List, [], ◌∷◌, ⊤, Option, Some, None, IfSome}
use Rattle.std.specs.List.{AllByRecursion}
use Rattle.tsn_types.specs.InRange.{RecordInRange}
use Rattle.tsn_types.specs.Names.{is_name}
use Rattle.tsn_edit.specs.declared.Edit.{Edit}
use Rattle.tsn_edit.specs.Batches.{EditsInRange, IsBatch}
use Rattle.tsn_undo.specs.Soundness.{IsSound}
use Rattle.tsn_commands.specs.Commands.{CommandInRange}
use Rattle.tsn_commands.specs.declared.command.Ask.{Ask}
use Rattle.tsn_commands.specs.declared.command.Command.{Command}
use Rattle.tsn_commands.specs.declared.command.Command.TheVariants as commands
use Rattle.tsn_commands.specs.declared.reply.Reply.{Reply}
use Rattle.tsn_bridge.specs.Families.{Editing, Family, family}
use Rattle.tsn_bridge.specs.Machine.{Step}
use Rattle.tsn_bridge.specs.State.{State}

-- a step of the machine at what a session asks
abbrev pub Answers : State → Ask → Reply → State → Type 0
Answers s a reply new = Step s a.session a.command reply new

-- what a session asked, and the reply to it
pub record Answered : Type 0 where
  pub ask : Ask
  pub reply : Reply

-- what was asked leads from one state to another, a step each
abbrev pub Leads : State → List Answered → State → Type 0
Leads s [] new = new ≡ s
Leads s (t ∷ ts) new = (between : State) × Answers s t.ask t.reply between × Leads between ts new

-- the edits that a command asks for: one, or those of a batch; none where it asks for something else
abbrev pub batch_of : Family → Option (List Edit)
batch_of (Editing batch) = Some batch
batch_of f = None

abbrev pub edits_of : Command → Option (List Edit)
edits_of command = batch_of (family command)

abbrev pub AreInRange : List Answered → Type 0
AreInRange ts = AllByRecursion (λ t. CommandInRange t.ask.command) ts

abbrev pub StateIsSound : State → Type 0
StateIsSound s = IsSound s.book.limits s.book.opening s.book.entries
