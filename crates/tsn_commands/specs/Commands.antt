-- Commands: how many sessions may give them, acts as commands, and the ranges of what a command holds.
use Rattle.std.specs.Prelude.{◌≡◌, ℕ, true, ⊤, IfSome}
use Rattle.tsn_types.specs.declared.keys.Key.{Key}
use Rattle.tsn_types.specs.InRange.{RecordInRange}
use Rattle.tsn_types.specs.Names.{is_name}
use Rattle.tsn_edit.specs.Batches.{EditsInRange, IsBatch}
use Rattle.tsn_entries.specs.declared.entries.Act.{Act as Asked}
use Rattle.tsn_entries.specs.declared.entries.Act.TheVariants as asked
use Rattle.tsn_commands.specs.declared.command.Command.{Command}
use Rattle.tsn_commands.specs.declared.command.Command.TheVariants as commands

-- how many sessions a bridge gives out at most
abbrev pub most_sessions : ℕ
most_sessions = 65535

-- an act on a key at an instant, as a command
abbrev pub act_command : Asked → Key → ℕ → Command
act_command asked.Enable = commands.Enable
act_command asked.Disable = commands.Disable
act_command asked.Apply = commands.Apply

-- the numbers of a command's records are in their ranges, a batch is 1 to 16 edits, on distinct keys, and a name may be one
abbrev pub CommandInRange : Command → Type 0
CommandInRange (commands.Hello name) = IfSome name (λ text. is_name text ≡ true)
CommandInRange (commands.Create k r) = RecordInRange r
CommandInRange (commands.Replace k r) = RecordInRange r
CommandInRange (commands.Batch batch) = IsBatch batch × EditsInRange batch
CommandInRange command = ⊤
