-- How a run over lines ends.
use Rattle.std.specs.Prelude.{◌≡◌, ◌≢◌, ◌⊎◌, ℕ, ◌≤◌, ◌^◌, List, [], Bool, true, length, Option, Result, Ok, Err}
use Rattle.std.specs.Io.KnownBytes.{Consumes, Appends, IsAtEnd}
use Rattle.tsn_bytes.specs.Bytes.{Counts}
use Rattle.tsn_bytes.specs.declared.bytes.Fault.{Fault}
use Rattle.tsn_bytes.specs.declared.bytes.Fault.TheVariants.{Read, Write, Memory, Exhausted}
use Rattle.tsn_serve.specs.Script.{Answering, Breaking, IsScript, OpenScript, BrokenScript, AllAnswered}

-- The most reads of a script.
abbrev pub most_reads : ℕ
most_reads = 2 ^ 32

-- What can be told of a run at one moment: the state; the bytes that the reader has left, how many calls it had and
-- whether one failed; the bytes that the writer took, those of them that it holds back, and whether a call failed.
pub record Moment (S : Type 0) : Type 0 where
  pub state : S
  pub left : Option (List ℕ)
  pub calls : ℕ
  pub reader_failed : Bool
  pub taken : Option (List ℕ)
  pub held_back : List ℕ
  pub writer_failed : Bool

-- The moment of a state, a reader and a writer, by what reader and writer tell of themselves.
abbrev pub moment : {S R W : Type 0} → (R → Option (List ℕ)) → (R → ℕ) → (R → Bool) → (W → Option (List ℕ)) → (W → List ℕ) → (W → Bool) → S
    → R → W → Moment S
moment remaining calls reader_failed taken pending writer_failed s r w = record {
  state = s;
  left = remaining r;
  calls = calls r;
  reader_failed = reader_failed r;
  taken = taken w;
  held_back = pending w;
  writer_failed = writer_failed w;
}

-- In so many calls this input was read, and this text was written.
pub record Moves {S : Type 0} (old new : Moment S) (input written : List ℕ) (made : ℕ) : Type 0 where
  pub read : Consumes old.left new.left input
  pub counts : Counts old.calls new.calls made
  pub wrote : Appends old.taken new.taken written

-- In so many reads at most this input was read, and this text was written.
pub record Ran {S : Type 0} (reads : ℕ) (old new : Moment S) : Type 0 where
  pub input : List ℕ
  pub text : List ℕ
  pub made : ℕ
  pub moves : Moves old new input text made
  pub few : made ≤ reads

-- All of the input was read, in so many reads at most. What was written is the text of its script and nothing else,
-- and nothing is held back. No call failed.
pub record Completes {S : Type 0} (answers : Answering S) (reads : ℕ) (old new : Moment S) : Type 0 where
  pub ran : Ran reads old new
  pub at_end : IsAtEnd new.left
  pub script : IsScript answers old.state ran.input ran.text new.state
  pub handed_on : new.held_back ≡ []
  pub reader_worked : new.reader_failed ≡ old.reader_failed
  pub writer_worked : new.writer_failed ≡ old.writer_failed

-- The reader failed; or so many reads were made, and each gave a byte. All lines that a line feed ended were answered,
-- nothing else was written, and nothing is held back.
pub record BreaksOff {S : Type 0} (answers : Answering S) (reads : ℕ) (old new : Moment S) : Type 0 where
  pub ran : Ran reads old new
  pub cause : (new.reader_failed ≡ true) ⊎ ((ran.made ≡ reads) × (reads ≤ length ran.input))
  pub script : OpenScript answers old.state ran.input ran.text new.state
  pub handed_on : new.held_back ≡ []
  pub writer_worked : new.writer_failed ≡ old.writer_failed

-- By this fault the answer broke off to one of the lines that ended, by a line feed or by the end of the input; or the
-- writer took all replies to these lines, and failed to hand on what it held back.
pub record IsBroken {S : Type 0} (answers : Answering S) (breaks : Breaking S) (reads : ℕ) (fault : Fault) (old new : Moment S) : Type 0
  where
    pub ran : Ran reads old new
    pub at_end : Bool
    pub ended : at_end ≡ true → IsAtEnd new.left
    pub script : BrokenScript answers breaks fault at_end old.state ran.input ran.text new.state
        ⊎ ((fault ≡ Write) × AllAnswered answers at_end old.state ran.input ran.text new.state)
    pub reader_worked : new.reader_failed ≡ old.reader_failed
    pub writer_failed : fault ≡ Write → new.writer_failed ≡ true
    pub writer_worked : fault ≢ Write → new.writer_failed ≡ old.writer_failed

-- How a run with so many reads at most ends. Where memory was wanting, nothing was read, written or changed.
abbrev pub Outcome : {S : Type 0} → Answering S → Breaking S → ℕ → Moment S → Moment S → Result (Unit {0}) Fault → Type 0
Outcome answers breaks reads old new (Ok u) = Completes answers reads old new
Outcome answers breaks reads old new (Err Read) = BreaksOff answers reads old new
Outcome answers breaks reads old new (Err Write) = IsBroken answers breaks reads Write old new
Outcome answers breaks reads old new (Err Exhausted) = IsBroken answers breaks reads Exhausted old new
Outcome answers breaks reads old new (Err Memory) = new ≡ old
