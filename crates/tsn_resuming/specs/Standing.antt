-- Where recorded commands lead a bridge, and how far the reading of a file has come.
use Rattle.std.specs.Prelude.{◌≡◌, ◌⊎◌, ℕ, List, [], ◌∷◌, map, Option, Result, Ok, Err, drop}
use Rattle.std.specs.Io.KnownBytes.{Consumes, IsAtEnd}
use Rattle.tsn_types.specs.declared.refusals.Refusal.{Refusal}
use Rattle.tsn_commands.specs.declared.command.Ask.{Ask}
use Rattle.tsn_commands.specs.declared.reply.Reply.TheVariants.{Refused}
use Rattle.tsn_bridge.specs.Histories.{Answers}
use Rattle.tsn_bridge.specs.State.{State}
use Rattle.tsn_recorded.specs.Text.{Recorded}
use Rattle.tsn_recorded.specs.Reading.{Reads}
use Rattle.tsn_recorded.specs.Reader.{HasGiven, Standing}
use Rattle.tsn_replay.specs.Replaying.{Replays}
use Rattle.tsn_wire.specs.Reading.{line_of}
use Rattle.tsn_resuming.specs.First.{setup_in}
use Rattle.tsn_initial.specs.Opening.{opened}

-- what a command asks, or why it does not read as a command
unfoldable pub asked : List ℕ → Result Ask Refusal
asked command = line_of command

-- what the command of a line asks
abbrev pub read_as : Recorded → Result Ask Refusal
read_as r = asked r.command

-- Recorded commands lead to a state: the first has the setup, which opens a bridge; each other one is read as an ask; and
-- the replay of these leads there.
pub record LeadTo (setup : List ℕ) (rs : List Recorded) (now : State) : Type 0 where
  pub first : Recorded
  pub others : List Recorded
  pub all : rs ≡ first ∷ others
  pub has_setup : setup_in first.command ≡ Ok setup
  pub start : State
  pub opens : opened setup ≡ Ok start
  pub asks : List Ask
  pub read : map read_as others ≡ map Ok asks
  pub replayed : Replays start asks now

-- a command is read as an ask, whose replay leads from one state to another
pub record IsStepped (s : State) (command : List ℕ) (now : State) : Type 0 where
  pub ask : Ask
  pub read : asked command ≡ Ok ask
  pub replayed : Replays s (ask ∷ []) now

-- a command does not read as an ask, or the bridge refuses it
pub record IsRefusedReply (s : State) (command : List ℕ) (why : Refusal) : Type 0 where
  pub ask : Ask
  pub read : asked command ≡ Ok ask
  pub answered : Answers s ask (Refused why) s

abbrev pub IsRefused : State → List ℕ → Refusal → Type 0
IsRefused s command why = (asked command ≡ Err why) ⊎ IsRefusedReply s command why

-- A reader was fed all that was read of a file, and gave these recorded commands of it.
pub record IsFed (before now : Option (List ℕ)) (rs : List Recorded) (s : Standing) : Type 0 where
  pub bytes : List ℕ
  pub read : Consumes before now bytes
  pub given : HasGiven bytes rs s

-- what it gave led the bridge to where it is
pub record IsUnderWay (before now : Option (List ℕ)) (setup : List ℕ) (s : Standing) (bridge : State) : Type 0 where
  pub commands : List Recorded
  pub fed : IsFed before now commands s
  pub leads : LeadTo setup commands bridge

-- and no further line verifies in what was read
pub record IsThrough (before now : Option (List ℕ)) (setup : List ℕ) (s : Standing) (bridge : State) : Type 0 where
  pub commands : List Recorded
  pub bytes : List ℕ
  pub read : Consumes before now bytes
  pub given : HasGiven bytes commands s
  pub reads : Reads [] bytes commands (drop s.good bytes)
  pub leads : LeadTo setup commands bridge

-- there was nothing more to read
pub record IsEnded (before after : Option (List ℕ)) : Type 0 where
  pub nothing : Consumes before after []
  pub all : IsAtEnd after
