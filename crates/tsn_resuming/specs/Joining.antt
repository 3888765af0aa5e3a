-- A file that a recorder wrote behind a first command.
use Rattle.std.specs.Prelude.{◌≡◌, ℕ, List, [], ◌∷◌, map, Option, Some, Ok}
use Rattle.std.specs.List.{AllByRecursion}
use Rattle.tsn_commands.specs.declared.command.Ask.{Ask}
use Rattle.tsn_bridge.specs.Histories.{Answered}
use Rattle.tsn_bridge.specs.State.{State}
use Rattle.tsn_recorded.specs.Text.{Recorded}
use Rattle.tsn_recorded.specs.Reading.{Reads}
use Rattle.tsn_replay.specs.Handling.{Handles}
use Rattle.tsn_replay.specs.Recording.{asks_of}
use Rattle.tsn_replay.specs.Replaying.{Life, Lives}
use Rattle.tsn_spelling.specs.Line.{line_text}
use Rattle.tsn_wire.specs.Values.{MayBeAsked}
use Rattle.tsn_resuming.specs.First.{setup_in}
use Rattle.tsn_initial.specs.Opening.{opened}

abbrev pub AreAskable : List Ask → Type 0
AreAskable asks = AllByRecursion (λ ask. MayBeAsked ask.session ask.command) asks

abbrev pub command_of : Recorded → List ℕ
command_of r = r.command

-- The file reads as a first command, whose setup opens a bridge, and behind it, in the service's compact spelling, what a bridge with
-- a recorder has written in any number of runs since.
pub record WasWritten (file : Option (List ℕ)) : Type 0 where
  pub bytes : List ℕ
  pub is : file ≡ Some bytes
  pub first : Recorded
  pub others : List Recorded
  pub rest : List ℕ
  pub reads : Reads [] bytes (first ∷ others) rest
  pub setup : List ℕ
  pub has_setup : setup_in first.command ≡ Ok setup
  pub start : State
  pub opens : opened setup ≡ Ok start
  pub most : ℕ
  pub lives : List Life
  pub now : State
  pub written : List Answered
  pub lived : Lives (Handles line_text most) start start [] lives now written
  pub askable : AreAskable (asks_of written)
  pub spelled : map command_of others ≡ map line_text (asks_of written)
