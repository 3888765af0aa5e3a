-- What is recorded of what sessions asked and were answered: each accepted command that changes what lasts.
use Rattle.std.specs.Prelude.{◌≡◌, ℕ, Bool, true, false, List, Option, Some, None, map, option_map, if◌then◌else◌}
use Rattle.std.specs.List.{AllByRecursion, filter_map}
use Rattle.tsn_commands.specs.declared.command.Ask.{Ask}
use Rattle.tsn_commands.specs.declared.command.Command.{Command}
use Rattle.tsn_commands.specs.declared.command.Command.TheVariants as commands
use Rattle.tsn_commands.specs.declared.reply.Reply.{Reply}
use Rattle.tsn_commands.specs.declared.reply.Reply.TheVariants.{Acted, Refused}
use Rattle.tsn_bridge.specs.Acts.{instant}
use Rattle.tsn_bridge.specs.Families.{Acting, Counting, Family, Framing, Greeting, Looking, family}
use Rattle.tsn_commands.specs.Commands.{act_command}
use Rattle.tsn_bridge.specs.Histories.{Answered}
use Rattle.tsn_bridge.specs.Rule.{may_change}
use Rattle.tsn_bridge.specs.State.{State}

-- whether a reply is no refusal
abbrev pub is_accepted : Reply → Bool
is_accepted (Refused why) = false
is_accepted reply = true

-- the instant that counted, as the reply to an act tells it
abbrev pub instant_told : Reply → ℕ
instant_told (Acted change entry now) = now
instant_told reply = 0

-- the instant that counts for a command in a state, if it is an act
abbrev pub counted_in : State → Family → ℕ
counted_in s (Acting act k now) = instant s now
counted_in s f = 0

abbrev pub counted : State → Command → ℕ
counted s command = counted_in s (family command)

-- What is kept of a session's command, once it was accepted: a hello of no session, an act at the instant that counted, any other
-- command that changes what lasts as it is; of a look and of a frame nothing.
abbrev pub kept_in : ℕ → Command → ℕ → Family → Option Ask
kept_in n command at (Greeting name) = Some (record { session = 0; command = commands.Hello name })
kept_in n command at (Acting act k now) = Some (record { session = n; command = act_command act k at })
kept_in n command at (Framing frame now) = None
kept_in n command at (Looking look) = None
kept_in n command at (Counting look) = None
kept_in n command at f = Some (record { session = n; command = command })

abbrev pub kept : ℕ → Command → ℕ → Option Ask
kept n command at = kept_in n command at (family command)

-- what is kept of an ask that a bridge in this state accepts
abbrev pub kept_of : State → Ask → Option Ask
kept_of s a = kept a.session a.command (counted s a.command)

abbrev pub with_reply : Reply → Ask → Answered
with_reply reply a = record { ask = a; reply = reply }

-- the recorded command, if there is one: of a hello that goes on as a session nothing is; the reply stands here for the theorems, and in no
-- file
abbrev pub recorded : Answered → Option Answered
recorded t = if may_change t.reply then option_map (with_reply t.reply) (kept t.ask.session t.ask.command (instant_told t.reply)) else None

-- the recorded commands of all that was asked and answered, in order
abbrev pub all_recorded : List Answered → List Answered
all_recorded ts = filter_map recorded ts

-- what stands in the file: the commands alone
abbrev pub asks_of : List Answered → List Ask
asks_of ts = map (λ t. t.ask) ts

-- recorded commands: each may have changed the state, and what is recorded of it is itself, so that a replay that records writes the same
-- again
abbrev pub AreRecorded : List Answered → Type 0
AreRecorded ts = AllByRecursion (λ t. (may_change t.reply ≡ true) × (recorded t ≡ Some t)) ts
