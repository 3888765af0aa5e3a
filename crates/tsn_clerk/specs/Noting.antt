-- What a clerk hears, and what it says of a turn.
use Rattle.std.specs.Prelude.{◌≡◌, ◌≢◌, ℕ, List, [], ◌∷◌, ◌++◌, Option, Some, None}
use Rattle.tsn_commands.specs.declared.command.Ask.{Ask}
use Rattle.tsn_commands.specs.declared.command.Command.{Command}
use Rattle.tsn_commands.specs.declared.reply.Reply.{Reply}
use Rattle.tsn_bridge.specs.Families.{Acting, Counting, Family, Framing, Greeting, Looking, family}
use Rattle.tsn_commands.specs.Commands.{act_command}
use Rattle.tsn_bridge.specs.Histories.{Answered}
use Rattle.tsn_replay.specs.Recording.{kept, recorded}
use Rattle.tsn_spelling.specs.Line.{line_text}
use Rattle.tsn_clerk.specs.declared.clerk.Heard.{Heard}
use Rattle.tsn_clerk.specs.declared.clerk.Heard.TheVariants as heard
use Rattle.tsn_clerk.specs.declared.clerk.Manner.{Manner}
use Rattle.tsn_clerk.specs.declared.clerk.Manner.TheVariants.{Act, Hello, Itself, Passing}

-- how a command of a family is kept, if it is accepted
abbrev pub manner_in : Family → Manner
manner_in (Greeting name) = Hello
manner_in (Acting act k now) = Act act k
manner_in (Framing frame now) = Passing
manner_in (Looking look) = Passing
manner_in (Counting look) = Passing
manner_in f = Itself

abbrev pub manner_of : Command → Manner
manner_of command = manner_in (family command)

-- What was heard is of this ask. Of one that passes nothing is ever kept; of one with a line, whatever the reply tells, this line
-- is; of an act it is one at the instant that the reply tells.
abbrev pub IsHeard : Heard → List ℕ → Ask → Type 0
IsHeard heard.Passing line ask = (at : ℕ) → kept ask.session ask.command at ≡ None
IsHeard heard.Line line ask = (at : ℕ) → (to_keep : Ask) × (kept ask.session ask.command at ≡ Some to_keep) × (line ≡ line_text to_keep)
IsHeard (heard.Act act key session) line ask =
    (at : ℕ) → kept ask.session ask.command at ≡ Some (record { session = session; command = act_command act key at })
IsHeard heard.Lost line ask = Unit {0}

-- The lines end with this one.
abbrev pub EndsWith : List (List ℕ) → List ℕ → Type 0
EndsWith lines line = (before : List (List ℕ)) × (lines ≡ before ++ line ∷ [])

-- The lines end with that of the recorded command, if there is one.
abbrev pub HasLast : Option Answered → List (List ℕ) → Type 0
HasLast None lines = Unit {0}
HasLast (Some t) lines = EndsWith lines (line_text t.ask)

-- What is recorded by the end of a turn: the last of it is the record of this turn's command, where it lasts and was accepted. Or
-- nothing is said, since something could not be recorded.
abbrev pub IsRecorded : Ask → Reply → Option (List (List ℕ)) → Type 0
IsRecorded ask reply None = Unit {0}
IsRecorded ask reply (Some lines) = HasLast (recorded (record { ask = ask; reply = reply })) lines
