-- What a bridge with a recorder does with what is asked of it: a step of the machine, and two refusals more.
use Rattle.std.specs.Prelude.{◌≡◌, ◌⊎◌, ◌<◌, ℕ, List, Option, Some, None, length}
use Rattle.tsn_types.specs.declared.refusals.Refusal.TheVariants.{Memory, TooLong}
use Rattle.tsn_types.specs.Refusals.{least}
use Rattle.tsn_commands.specs.declared.command.Ask.{Ask}
use Rattle.tsn_commands.specs.declared.command.Command.TheVariants.{Hello}
use Rattle.tsn_commands.specs.declared.reply.Reply.{Reply}
use Rattle.tsn_commands.specs.declared.reply.Reply.TheVariants.{Refused}
use Rattle.tsn_bridge.specs.Histories.{Answers}
use Rattle.tsn_bridge.specs.Sessions.{hello_rule}
use Rattle.tsn_bridge.specs.State.{State}
use Rattle.tsn_replay.specs.Recording.{kept_of}

-- A hello that has no cause is refused 18, and nothing changes: memory is wanting for its line. The machine alone refuses it so
-- only where it would keep a name. Any other command that is recorded takes memory there too: where it has no cause, its rule allows 18.
pub record IsHelloWithoutMemory (s : State) (a : Ask) (reply : Reply) (new : State) : Type 0 where
  pub name : Option (List ℕ)
  pub hello : a.command ≡ Hello name
  pub free : least (hello_rule s name).causes ≡ None
  pub refused : reply ≡ Refused Memory
  pub same : new ≡ s

-- A command is refused 1, and nothing changes: what is kept of it has a line of more bytes than a line may have.
pub record IsTooLong (line : Ask → List ℕ) (most : ℕ) (s : State) (a : Ask) (reply : Reply) (new : State) : Type 0 where
  pub to_keep : Ask
  pub is : kept_of s a ≡ Some to_keep
  pub over : most < length (line to_keep)
  pub refused : reply ≡ Refused TooLong
  pub same : new ≡ s

-- what a bridge with a recorder does, whose asks have these lines, of at most so many bytes
abbrev pub Handles : (Ask → List ℕ) → ℕ → State → Ask → Reply → State → Type 0
Handles line most s a reply new = Answers s a reply new ⊎ IsHelloWithoutMemory s a reply new ⊎ IsTooLong line most s a reply new
