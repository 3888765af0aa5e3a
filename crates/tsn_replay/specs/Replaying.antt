-- The replay of recorded commands, and that it leads back.
use Rattle.std.specs.Prelude.{◌≡◌, ◌⊎◌, true, List, [], ◌∷◌, ◌++◌}
use Rattle.tsn_types.specs.declared.refusals.Refusal.TheVariants.{Memory}
use Rattle.tsn_commands.specs.declared.command.Ask.{Ask}
use Rattle.tsn_commands.specs.declared.reply.Reply.{Reply}
use Rattle.tsn_commands.specs.declared.reply.Reply.TheVariants.{Refused}
use Rattle.tsn_bridge.specs.Histories.{Answered, Answers, Leads}
use Rattle.tsn_bridge.specs.State.{State}
use Rattle.tsn_replay.specs.Answering.{AnswerAlike}
use Rattle.tsn_replay.specs.Lasting.{Resumes, last_act}
use Rattle.tsn_replay.specs.Recording.{all_recorded, asks_of, is_accepted}

-- What may be answered to an ask in a state, with the state after it: a step of the machine, as `Answers` has it, or what a bridge
-- with a recorder does, as `Handles` has it.
abbrev pub Turn : Type 1
Turn = State → Ask → Reply → State → Type 0

-- what was asked leads from one state to another, a turn each
abbrev pub Comes : Turn → State → List Answered → State → Type 0
Comes turn s [] new = new ≡ s
Comes turn s (t ∷ ts) new = (between : State) × turn s t.ask t.reply between × Comes turn between ts new

-- what was recorded leads from one state to another, a step of the machine each, and each is accepted
abbrev pub Replays : State → List Ask → State → Type 0
Replays s [] new = new ≡ s
Replays s (a ∷ rest) new =
    (reply : Reply) × (between : State) × Answers s a reply between × (is_accepted reply ≡ true) × Replays between rest new

-- The replay of recorded commands, from where all began, leads back to a moment: each may be answered again as it was, and then what
-- lasts is as it was at the moment; no other state is come to by a replay in which each is accepted; and wherever a replay stands,
-- the next is accepted, or refused for want of memory and changes nothing. The bridge time is then that of the last act.
pub record LeadsBack (start : State) (front : List Answered) (moment : State) : Type 0 where
  pub again : State
  pub leads : Leads start front again
  pub replays : Replays start (asks_of front) again
  pub resumes : Resumes moment again
  pub alike : AnswerAlike moment again
  pub only : (other : State) → Replays start (asks_of front) other → other ≡ again
  pub goes_on : (done : List Ask) (a : Ask) (rest : List Ask) (between new : State) (reply : Reply)
      → asks_of front ≡ done ++ a ∷ rest → Replays start done between → Answers between a reply new
      → (is_accepted reply ≡ true) ⊎ ((reply ≡ Refused Memory) × (new ≡ between))
  pub time : start.time ≡ last_act start.book.entries → again.time ≡ last_act again.book.entries

-- the moment at which just this much was recorded of what was asked
pub record MomentOf (turn : Turn) (start : State) (asks : List Answered) (now : State) (front : List Answered) : Type 0 where
  pub before : List Answered
  pub after : List Answered
  pub split : asks ≡ before ++ after
  pub recorded_then : all_recorded before ≡ front
  pub moment : State
  pub led : Comes turn start before moment
  pub leads_on : Comes turn moment after now
  pub back : LeadsBack start front moment

-- Of any list of asks, the replay of all that is recorded of them leads back to now, and that of any front of it to the moment at
-- which just this front was recorded.
pub record IsReplayed (turn : Turn) (start : State) (asks : List Answered) (now : State) : Type 0 where
  pub whole : LeadsBack start (all_recorded asks) now
  pub fronts : (front rest : List Answered) → all_recorded asks ≡ front ++ rest → MomentOf turn start asks now front

-- ---- over many starts

-- a run of the service, to its end: what was asked in it, and what the file then still has of all that was written
pub record Life : Type 0 where
  pub asks : List Answered
  pub stays : List Answered

abbrev pub IsFront : List Answered → List Answered → Type 0
IsFront front all = (rest : List Answered) × (all ≡ front ++ rest)

-- Run after run: each goes on from a state with what the file then holds; at its end any front of all that was written stays, and
-- the next run begins with a replay of that.
abbrev pub Lives : Turn → State → State → List Answered → List Life → State → List Answered → Type 0
Lives turn start s file [] now written = (now ≡ s) × (written ≡ file)
Lives turn start s file (life ∷ lives) now written =
    (ended : State) × Comes turn s life.asks ended × IsFront life.stays (file ++ all_recorded life.asks)
    × (again : State) × Replays start (asks_of life.stays) again × Lives turn start again life.stays lives now written
