-- A connection whose replies wait until what they tell of is kept, and what each of its calls does.
use Rattle.std.specs.Prelude.{◌≡◌, ◌⊎◌, ℕ, List, [], ◌∷◌, ◌++◌, Option, Some, None}
use Rattle.std.specs.Io.KnownBytes.{Appends}
use Rattle.tsn_commands.specs.declared.reply.Reply.{Reply}
use Rattle.tsn_history.specs.Texts as texts
use Rattle.tsn_lasting.specs.Standing.{BeginsWith, Replies}
use Rattle.tsn_replies.specs.Replies.{reply_text}
use Rattle.tsn_serve.specs.Lines.{HasNoLineFeed, short_line}
use Rattle.tsn_serve.specs.Script.{Answering, Breaking}
use Rattle.tsn_serve.specs.Talk.{Caller, Goes, Told}
use Rattle.tsn_clerk.specs.Noting.{IsRecorded}

-- Lines of recorded commands, where they are known.
abbrev pub Lines : Type 0
Lines = Option (List (List ℕ))

-- The caller; all that was recorded up to its latest call, if it made one; what was kept when it settled last; the replies that wait;
-- and the writer.
pub record Parts (O : Type 0) : Type 0 where
  pub caller : Caller
  pub due : Lines
  pub kept : Lines
  pub replies : Replies
  pub writer : O

-- What is due is kept.
abbrev pub IsCovered : Lines → Lines → Type 0
IsCovered None kept = Unit {0}
IsCovered (Some due) None = ⊥
IsCovered (Some due) (Some kept) = texts.BeginsWith kept due

-- What is kept of a line that has not ended yet: all of it, or none of one that is too long.
pub record IsHeld (held : Option (List ℕ)) : Type 0 where
  pub rest : List ℕ
  pub free : HasNoLineFeed rest
  pub is : held ≡ short_line rest

-- These lines begin with those.
abbrev pub Covers : List (List ℕ) → Lines → Type 0
Covers lines None = Unit {0}
Covers lines (Some others) = texts.BeginsWith lines others

-- What is recorded by a call: it begins with what was due before, and the last of it is the record of this call's command, if it
-- lasts and was accepted. Where there was no call, what is due stays.
abbrev pub IsDue : Lines → Option Lines → Lines → Type 0
IsDue old None new = new ≡ old
IsDue old (Some None) new = ⊥
IsDue old (Some (Some lines)) new = (new ≡ Some lines) × Covers lines old

-- A line has this reply, which is not told yet. What is due then has the record of its command.
pub record Replied {O : Type 0} (old : Parts O) (line : Option (List ℕ)) (reply : Reply) (new : Parts O) : Type 0 where
  pub mark : Option Lines
  pub told : Told IsRecorded old.caller line reply mark new.caller
  pub due : IsDue old.due mark new.due
  pub replies : new.replies ≡ old.replies
  pub writer : new.writer ≡ old.writer

module _ {O : Type 0} (taken : O → Option (List ℕ)) where
  -- Its text waits behind the others.
  pub record Waits (old : Parts O) (text : List ℕ) (new : Parts O) : Type 0 where
    pub caller : new.caller ≡ old.caller
    pub due : new.due ≡ old.due
    pub writer : new.writer ≡ old.writer
    pub waiting : new.replies.bytes ≡ old.replies.bytes ++ text

  -- All that is due is kept; then what waits was handed on, and then this text.
  pub record HandsOn (old : Parts O) (text : List ℕ) (new : Parts O) : Type 0 where
    pub caller : new.caller ≡ old.caller
    pub due : new.due ≡ old.due
    pub covered : IsCovered new.due new.kept
    pub took : Appends (taken old.writer) (taken new.writer) (old.replies.bytes ++ text)
    pub none : new.replies.bytes ≡ []

  -- Nothing was handed on.
  pub record IsCutOff (old new : Parts O) : Type 0 where
    pub caller : new.caller ≡ old.caller
    pub taken_is : taken new.writer ≡ taken old.writer

  -- All that is due is kept, and a front of what waits and of this text was handed on.
  pub record IsCutShort (old : Parts O) (text : List ℕ) (new : Parts O) : Type 0 where
    pub caller : new.caller ≡ old.caller
    pub due : new.due ≡ old.due
    pub covered : IsCovered new.due new.kept
    pub front : List ℕ
    pub took : Appends (taken old.writer) (taken new.writer) front
    pub begins : BeginsWith (old.replies.bytes ++ text) front

  abbrev pub Tells : Parts O → List ℕ → Parts O → Type 0
  Tells old text new = Waits old text new ⊎ HandsOn old text new

  abbrev pub BreaksOff : Parts O → List ℕ → Parts O → Type 0
  BreaksOff old text new = IsCutOff old new ⊎ IsCutShort old text new

  -- A line is answered: it has a reply, which waits or was handed on, behind all that is due.
  pub record AnswersLine (old : Parts O) (line : Option (List ℕ)) (new : Parts O) : Type 0 where
    pub reply : Reply
    pub between : Parts O
    pub replied : Replied old line reply between
    pub told : Tells between (reply_text reply) new

  -- An answer broke off in the call or behind it, and nothing was handed on; or all that is due was kept, and a front was.
  pub record BreaksLine (old : Parts O) (line : Option (List ℕ)) (new : Parts O) : Type 0 where
    pub goes : Goes old.caller new.caller
    pub told : (taken new.writer ≡ taken old.writer)
        ⊎ ((reply : Reply) × (between : Parts O) × Replied old line reply between × IsCutShort between (reply_text reply) new)

  -- So it answers, and breaks off, by replies that are not handed to the writer of the loop over lines.
  abbrev pub Answers : Answering (Parts O)
  Answers old line text new = (text ≡ []) × AnswersLine old line new

  abbrev pub AnswersBreak : Breaking (Parts O)
  AnswersBreak old line fault part new = (part ≡ []) × BreaksLine old line new
