-- What may be written for a command line, by what a command that is read may be replied to.
use Rattle.std.specs.Prelude.{◌≡◌, ◌⊎◌, ℕ, List, Option, Some, None, Result, Ok, Err}
use Rattle.tsn_types.specs.declared.refusals.Refusal.{Refusal}
use Rattle.tsn_types.specs.declared.refusals.Refusal.TheVariants as refusals
use Rattle.tsn_bytes.specs.declared.bytes.Fault.TheVariants.{Write}
use Rattle.tsn_bridge.specs.State.{State}
use Rattle.tsn_commands.specs.declared.reply.Reply.{Reply}
use Rattle.tsn_commands.specs.declared.reply.Reply.TheVariants as replies
use Rattle.tsn_bridge.specs.Histories as machine
use Rattle.tsn_commands.specs.declared.command.Ask.{Ask}
use Rattle.tsn_commands.specs.declared.command.Command.{Command}
use Rattle.tsn_wire.specs.Reading.{line_of}
use Rattle.tsn_replies.specs.Replies.{reply_text}
use Rattle.tsn_serve.specs.Script.{Answering, Breaking, IsFront}

-- What a command that was read may be replied: replying old ask reply new says that from the state old it may have this
-- reply, with the state new after it.
abbrev pub Replying : Type 0 → Type 1
Replying S = S → Ask → Reply → S → Type 0

-- The reply to what a line reads as: that to the command, or the refusal of reading, which changes nothing.
abbrev pub Replies : {S : Type 0} → Replying S → S → Result Ask Refusal → Reply → S → Type 0
Replies replying old (Ok ask) reply new = replying old ask reply new
Replies replying old (Err refusal) reply new = (reply ≡ replies.Refused refusal) × (new ≡ old)

-- What a line may be read as. One that is too long is refused, by refusal 1. Want of memory may stand in place of what any
-- other says.
abbrev pub MayRead : Option (List ℕ) → Result Ask Refusal → Type 0
MayRead None read = read ≡ Err refusals.TooLong
MayRead (Some line) read = (read ≡ line_of line) ⊎ (read ≡ Err refusals.Memory)

-- The reply to a line is that to what it was read as.
abbrev pub Says : {S : Type 0} → Replying S → S → Option (List ℕ) → Reply → S → Type 0
Says replying old line reply new = (read : Result Ask Refusal) × MayRead line read × Replies replying old read reply new

-- A command that changes nothing may have a reply whose text is as P says.
abbrev pub SaysOf : {S : Type 0} → Replying S → S → Ask → (List ℕ → Type 0) → Type 0
SaysOf replying s ask P = (reply : Reply) × replying s ask reply s × P (reply_text reply)

-- what a session asks
abbrev pub asked : ℕ → Command → Ask
asked session command = record { session = session; command = command }

-- The text of a line is that of the reply to it.
abbrev pub SaysText : {S : Type 0} → Replying S → Answering S
SaysText replying old line text new = (reply : Reply) × Says replying old line reply new × (text ≡ reply_text reply)

-- The writer failed in the text of a line. A front of it is written, and the state is that after the line.
abbrev pub CutsText : {S : Type 0} → Replying S → Breaking S
CutsText replying old line fault part new =
    (fault ≡ Write) × ((text : List ℕ) × SaysText replying old line text new × IsFront part text)

-- A bridge replies to a command by a step.
abbrev pub Answers : Answering State
Answers old line text new = SaysText machine.Answers old line text new

-- An answer of a bridge breaks off only where the writer failed.
abbrev pub BreaksInWriting : Breaking State
BreaksInWriting old line fault part new = CutsText machine.Answers old line fault part new
