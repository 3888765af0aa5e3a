-- The bridge as the machine of a desk: what a turn may be, and a desk's history as what was asked and answered.
use Rattle.std.specs.Prelude.{List, [], ◌∷◌}
use Rattle.tsn_machine.specs.declared.history.Entry.{Entry}
use Rattle.tsn_commands.specs.declared.command.Ask.{Ask}
use Rattle.tsn_commands.specs.declared.reply.Reply.{Reply}
use Rattle.tsn_bridge.specs.Histories.{Answered, Answers}
use Rattle.tsn_commands.specs.Commands.{CommandInRange}
use Rattle.tsn_bridge.specs.State.{State}

-- a turn is a step of the machine at what a session asks, and the numbers of the command's record are in their ranges
abbrev pub Turns : State → Ask → Reply → State → Type 0
Turns s a reply new = CommandInRange a.command × Answers s a reply new

-- what was asked and answered in the calls of a history
abbrev pub answered : List (Entry Ask Reply) → List Answered
answered [] = []
answered (e ∷ es) = record { ask = e.request; reply = e.reply } ∷ answered es
