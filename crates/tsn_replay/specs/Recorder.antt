-- A recorder: a bridge, and the text of what was recorded of what was asked of it.
use Rattle.std.specs.Coded.{Coded, code_by, coded×, coded_list, coded_ℕ}
use Rattle.std.specs.Prelude.{refl, ◌≡◌, ◌≢◌, ◌≤◌, ℕ, List, [], ◌∷◌, ◌++◌, Option, Some, None, length}
use Rattle.std.specs.List.{All}
use Rattle.tsn_commands.specs.declared.command.Ask.{Ask}
use Rattle.tsn_commands.specs.declared.reply.Reply.{Reply}
use Rattle.tsn_bridge.specs.Histories.{Answered}
use Rattle.tsn_commands.specs.Commands.{CommandInRange}
use Rattle.tsn_bridge.specs.State.{State, state_code}
use Rattle.tsn_replay.specs.Handling.{Handles}
use Rattle.tsn_replay.specs.Recording.{recorded}

abbrev pub line_feed : ℕ
line_feed = 10

-- the text of a recorded command, if there is one: its line, and a line feed behind it
abbrev pub text_of : (Ask → List ℕ) → Option Answered → List ℕ
text_of line None = []
text_of line (Some t) = line t.ask ++ line_feed ∷ []

-- the text of several, a line each
abbrev pub text_of_all : (Ask → List ℕ) → List Answered → List ℕ
text_of_all line [] = []
text_of_all line (t ∷ ts) = line t.ask ++ line_feed ∷ [] ++ text_of_all line ts

-- no line feed is in a text
abbrev pub IsOneLine : List ℕ → Type 0
IsOneLine bytes = All (λ b. b ≢ line_feed) bytes

-- the line of a recorded command, if there is one, is one line of at most so many bytes
abbrev pub HasLine : (Ask → List ℕ) → ℕ → Option Answered → Type 0
HasLine line most None = Unit {0}
HasLine line most (Some t) = IsOneLine (line t.ask) × (length (line t.ask) ≤ most)

-- a bridge's state and a text
pub record Recording : Type 0 where
  pub bridge : State
  pub text : List ℕ

abbrev pub recording_code : Coded Recording
recording_code = code_by (State × List ℕ) (coded× state_code (coded_list coded_ℕ)) (λ r. (r.bridge, r.text))
    (λ p. record { bridge = p.0; text = p.1 }) (λ _. refl)

-- Recorded: the bridge does as a bridge with a recorder does; the text grows by exactly the line of the recorded command and a
-- line feed, if there is one, and that line is as a line may be. The numbers of what was asked are in their ranges.
pub record Records (line : Ask → List ℕ) (most : ℕ) (old : Recording) (ask : Ask) (reply : Reply) (new : Recording) : Type 0 where
  pub ranges : CommandInRange ask.command
  pub handles : Handles line most old.bridge ask reply new.bridge
  pub grows : new.text ≡ old.text ++ text_of line (recorded (record { ask = ask; reply = reply }))
  pub has_line : HasLine line most (recorded (record { ask = ask; reply = reply }))

-- a turn of a recorder takes its bridge from one state to another, and puts a text behind what stands in its text, whatever that is
pub record IsTurn (line : Ask → List ℕ) (most : ℕ) (s : State) (t : Answered) (between : State) (added : List ℕ) : Type 0 where
  pub before : List ℕ
  pub records : Records line most (record { bridge = s; text = before }) t.ask t.reply (record { bridge = between; text = before ++ added })

-- What was asked of a recorder, one after another, leads its bridge from one state to another; told is all that these turns put
-- behind its text, one after another. Ahead of each, what stands in the text may be taken from it.
abbrev pub Runs : (Ask → List ℕ) → ℕ → State → List Answered → State → List ℕ → Type 0
Runs line most s [] now told = (now ≡ s) × (told ≡ [])
Runs line most s (t ∷ ts) now told =
    (between : State) × (added : List ℕ) × (rest : List ℕ)
    × IsTurn line most s t between added × Runs line most between ts now rest × (told ≡ added ++ rest)
