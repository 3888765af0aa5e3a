-- Lines with their replies, over a bridge with a recorder.
use Rattle.std.specs.Prelude.{◌≡◌, ℕ, List, [], ◌∷◌, ◌++◌, Option, Some, None, Result, Ok, Err, map}
use Rattle.tsn_types.specs.declared.refusals.Refusal.{Refusal}
use Rattle.tsn_commands.specs.declared.command.Ask.{Ask}
use Rattle.tsn_commands.specs.declared.reply.Reply.{Reply}
use Rattle.tsn_commands.specs.declared.reply.Reply.TheVariants.{Refused}
use Rattle.tsn_bridge.specs.Histories.{Answered}
use Rattle.tsn_commands.specs.Commands.{CommandInRange}
use Rattle.tsn_bridge.specs.State.{State}
use Rattle.tsn_replies.specs.Replies.{reply_text}
use Rattle.tsn_replay.specs.Handling.{Handles}
use Rattle.tsn_replay.specs.Recorder.{HasLine}
use Rattle.tsn_replay.specs.Recording.{recorded}
use Rattle.tsn_serve.specs.Answers.{MayRead}
use Rattle.tsn_serve.specs.Lines.{longest_line}
use Rattle.tsn_spelling.specs.Line.{line_text}

-- A line, none where it is too long, with what it was read as and the reply.
pub record Exchange : Type 0 where
  pub line : Option (List ℕ)
  pub read : Result Ask Refusal
  pub reply : Reply

-- What is recorded of what a line was read as and of its reply, if anything is.
abbrev pub recorded_of : Result Ask Refusal → Reply → Option Answered
recorded_of (Ok ask) reply = recorded (record { ask = ask; reply = reply })
recorded_of (Err why) reply = None

-- The command that is recorded, in the service's compact spelling, if one is.
abbrev pub command_of : Option Answered → List (List ℕ)
command_of None = []
command_of (Some t) = line_text t.ask ∷ []

-- Those of several.
abbrev pub commands_of : List Exchange → List (List ℕ)
commands_of [] = []
commands_of (x ∷ xs) = command_of (recorded_of x.read x.reply) ++ commands_of xs

-- The text of their replies.
abbrev pub replies_of : List Exchange → List ℕ
replies_of [] = []
replies_of (x ∷ xs) = reply_text x.reply ++ replies_of xs

-- Their lines.
abbrev pub lines_of : List Exchange → List (Option (List ℕ))
lines_of xs = map (λ x. x.line) xs

-- What a line was read as is answered: a command as a bridge with a recorder handles it, and what was not read by that refusal,
-- which changes nothing.
abbrev pub AnswersRead : State → Result Ask Refusal → Reply → State → Type 0
AnswersRead s (Ok ask) reply new = CommandInRange ask.command × Handles line_text longest_line s ask reply new
AnswersRead s (Err why) reply new = (reply ≡ Refused why) × (new ≡ s)

-- A line is read and answered.
pub record Exchanges (s : State) (x : Exchange) (new : State) : Type 0 where
  pub may : MayRead x.line x.read
  pub answers : AnswersRead s x.read x.reply new
  pub has_line : HasLine line_text longest_line (recorded_of x.read x.reply)

-- Line after line.
abbrev pub Runs : State → List Exchange → State → Type 0
Runs s [] new = new ≡ s
Runs s (x ∷ xs) new = (mid : State) × Exchanges s x mid × Runs mid xs new
