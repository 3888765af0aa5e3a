-- The parts of who answers a script whose work lasts, and what each of its calls does.
use Rattle.std.specs.Prelude.{◌≡◌, ◌⊎◌, ℕ, List, [], ◌∷◌, ◌++◌, Option, Result, Ok, Err, map}
use Rattle.std.specs.Io.KnownBytes.{Appends}
use Rattle.tsn_types.specs.declared.refusals.Refusal.{Refusal}
use Rattle.tsn_commands.specs.declared.command.Ask.{Ask}
use Rattle.tsn_commands.specs.declared.reply.Reply.{Reply}
use Rattle.tsn_commands.specs.declared.reply.Reply.TheVariants.{Refused}
use Rattle.tsn_bridge.specs.Histories.{Answered}
use Rattle.tsn_bridge.specs.State.{State}
use Rattle.tsn_keeping.specs.Keeping.{Keeping}
use Rattle.tsn_recorded.specs.Text.{AreRecordedAfter, Recorded, last_digest, text_after}
use Rattle.tsn_replay.specs.Recorder.{HasLine, Recording, Records}
use Rattle.tsn_serve.specs.Lines.{longest_line}
use Rattle.tsn_serve.specs.Script.{Answering, Breaking}
use Rattle.tsn_spelling.specs.Line.{line_text}
use Rattle.tsn_lasting.specs.Exchanges.{AnswersRead, command_of, recorded_of}
use Rattle.tsn_lasting.specs.Standing.{BeginsWith, HasAnswered, Lasts, Replies, Standing, Stays}

-- The bridge, the journal's keeper, the replies that wait, and the writer.
pub record Parts (W : Type 0) : Type 0 where
  pub bridge : State
  pub keeper : Keeping
  pub replies : Replies
  pub writer : W

-- Where they stand.
abbrev pub standing : {W : Type 0} → (W → Option (List ℕ)) → Parts W → Standing
standing taken p = record {
  bridge = p.bridge;
  last = p.keeper.last;
  entered = p.keeper.kept ++ p.keeper.unsettled;
  kept = p.keeper.kept;
  taken = taken p.writer;
  waiting = p.replies.bytes;
}

-- A turn of the recorder at what a line was read as; what was not read is refused, and nothing changes.
abbrev pub StepsRecorder : Recording → Result Ask Refusal → Reply → Recording → Type 0
StepsRecorder old (Ok ask) reply new = Records line_text longest_line old ask reply new
StepsRecorder old (Err why) reply new = (reply ≡ Refused why) × (new ≡ old)

-- What is recorded, if anything is, is put behind what was entered, a line with some stamp.
pub record Puts (old : Keeping) (t : Option Answered) (rs : List Recorded) (new : Keeping) : Type 0 where
  pub commands : map (λ (r : Recorded). r.command) rs ≡ command_of t
  pub well : AreRecordedAfter old.last rs
  pub last : new.last ≡ last_digest old.last rs
  pub unsettled : new.unsettled ≡ old.unsettled ++ text_after old.last rs
  pub kept : new.kept ≡ old.kept

-- What a line was read as is answered, and what that leaves is entered. Nothing is told.
pub record StepsRead (s : Standing) (read : Result Ask Refusal) (reply : Reply) (rs : List Recorded) (new : Standing) : Type 0 where
  pub answers : AnswersRead s.bridge read reply new.bridge
  pub has_line : HasLine line_text longest_line (recorded_of read reply)
  pub commands : map (λ (r : Recorded). r.command) rs ≡ command_of (recorded_of read reply)
  pub well : AreRecordedAfter s.last rs
  pub last : new.last ≡ last_digest s.last rs
  pub entered : new.entered ≡ s.entered ++ text_after s.last rs
  pub kept : new.kept ≡ s.kept
  pub taken : new.taken ≡ s.taken
  pub waiting : new.waiting ≡ s.waiting

-- Nothing was handed on, and what was kept is.
pub record IsCutOff (s new : Standing) : Type 0 where
  pub taken : new.taken ≡ s.taken
  pub kept : BeginsWith new.kept s.kept

-- All that was entered is kept, and what waits was handed on, and then this text.
pub record HandsOn (s new : Standing) (text : List ℕ) : Type 0 where
  pub stays : Stays s new
  pub kept : new.kept ≡ s.entered
  pub took : Appends s.taken new.taken (s.waiting ++ text)
  pub none : new.waiting ≡ []

-- The text waits behind the others.
pub record Waits (s new : Standing) (text : List ℕ) : Type 0 where
  pub stays : Stays s new
  pub kept : new.kept ≡ s.kept
  pub taken : new.taken ≡ s.taken
  pub waiting : new.waiting ≡ s.waiting ++ text

-- A reply of this text waits, or was handed on.
abbrev pub Tells : Standing → Standing → List ℕ → Type 0
Tells s new text = Waits s new text ⊎ HandsOn s new text

-- All that was entered is kept, and a front of what waits and of this text was handed on.
pub record IsCutShort (s new : Standing) (text : List ℕ) : Type 0 where
  pub kept : new.kept ≡ s.entered
  pub front : List ℕ
  pub took : Appends s.taken new.taken front
  pub begins : BeginsWith (s.waiting ++ text) front

-- It broke off before anything was handed on, or in that.
abbrev pub BreaksOff : Standing → Standing → List ℕ → Type 0
BreaksOff s new text = IsCutOff s new ⊎ IsCutShort s new text

-- Where lines were answered, this one is answered behind them.
abbrev pub AnswersLine : {W : Type 0} → (W → Option (List ℕ)) → Parts W → Option (List ℕ) → Parts W → Type 0
AnswersLine taken old line new =
    (s0 : Standing) (ls : List (Option (List ℕ))) → HasAnswered s0 ls (standing taken old)
    → HasAnswered s0 (ls ++ line ∷ []) (standing taken new)

-- Or its answer broke off, and what was handed on lasts.
abbrev pub BreaksLine : {W : Type 0} → (W → Option (List ℕ)) → Parts W → Option (List ℕ) → Parts W → Type 0
BreaksLine taken old line new =
    (s0 : Standing) (ls : List (Option (List ℕ))) → HasAnswered s0 ls (standing taken old) → Lasts s0 (ls ++ line ∷ []) (standing taken new)

-- So it answers, and breaks off, by replies that are not handed to the writer of the loop over lines.
abbrev pub Answers : {W : Type 0} → (W → Option (List ℕ)) → Answering (Parts W)
Answers taken old line text new = (text ≡ []) × AnswersLine taken old line new

abbrev pub AnswersBreak : {W : Type 0} → (W → Option (List ℕ)) → Breaking (Parts W)
AnswersBreak taken old line fault part new = (part ≡ []) × BreaksLine taken old line new
