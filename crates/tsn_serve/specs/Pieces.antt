-- How a script goes on while its input comes in pieces. Each fact says what a piece adds to any input before it.
use Rattle.std.specs.Prelude.{◌≡◌, ◌⊎◌, ℕ, ◌<◌, ◌≤◌, ◌++◌, List, false, true, length, take, Option, Result, Ok, Err}
use Rattle.std.specs.Io.KnownBytes.{Appends}
use Rattle.tsn_serve.specs.Lines.{Splits, short_line}
use Rattle.tsn_bytes.specs.declared.bytes.Fault.{Fault}
use Rattle.tsn_bytes.specs.declared.bytes.Fault.TheVariants.{Write, Exhausted}
use Rattle.tsn_serve.specs.Script.{Answering, Breaking, Run, IsScript, BrokenScript}

-- The input so far is whole lines, which were answered, and a rest, of which this is held.
pub record Going {S : Type 0} (answers : Answering S) (opening : S) (input : List ℕ) (kept : Option (List ℕ)) (text : List ℕ)
    (now : S) : Type 0 where
  pub lines : List (List ℕ)
  pub rest : List ℕ
  pub splits : Splits input lines rest
  pub kept_is : kept ≡ short_line rest
  pub run : Run answers opening lines text now

-- A piece goes on with any script, from what is held to what is held then, and adds this text.
abbrev pub Feeds : {S : Type 0} → Answering S → S → Option (List ℕ) → List ℕ → List ℕ → S → Option (List ℕ) → Type 0
Feeds {S} answers old kept piece text new kept' =
    (opening : S) (input before : List ℕ)
    → Going answers opening input kept before old
    → Going answers opening (input ++ piece) kept' (before ++ text) new

-- The end of the input ends any script, and adds this text.
abbrev pub Ends : {S : Type 0} → Answering S → S → Option (List ℕ) → List ℕ → S → Type 0
Ends {S} answers old kept text new =
    (opening : S) (input before : List ℕ)
    → Going answers opening input kept before old
    → IsScript answers opening input (before ++ text) new

-- In a piece an answer breaks off, whatever the script before it, and these bytes of its text are written.
abbrev pub Breaks : {S : Type 0} → Answering S → Breaking S → Fault → S → Option (List ℕ) → List ℕ → List ℕ → S → Type 0
Breaks {S} answers breaks fault old kept piece written new =
    (opening : S) (input before : List ℕ)
    → Going answers opening input kept before old
    → BrokenScript answers breaks fault false opening (input ++ piece) (before ++ written) new

-- So many bytes in front, one at least, go on with any script; or an answer in the bytes breaks off by this fault. What was written is the
-- text that this adds, as far as it goes.
abbrev pub FeedsFront : {S : Type 0} → Answering S → Breaking S → S → Option (List ℕ) → List ℕ → Option (List ℕ) → Option (List ℕ)
    → Result ℕ Fault → S → Option (List ℕ) → Type 0
FeedsFront answers breaks old kept bytes taken taken' (Ok n) new kept' =
    (0 < n) × (n ≤ length bytes)
    × ((text : List ℕ) × Feeds answers old kept (take n bytes) text new kept' × Appends taken taken' text)
FeedsFront answers breaks old kept bytes taken taken' (Err fault) new kept' =
    ((fault ≡ Write) ⊎ (fault ≡ Exhausted))
    × ((written : List ℕ) × Breaks answers breaks fault old kept bytes written new × Appends taken taken' written)

-- At the end of the input the last answer breaks off, and these bytes of it are written.
abbrev pub EndBreaks : {S : Type 0} → Answering S → Breaking S → Fault → S → Option (List ℕ) → List ℕ → S → Type 0
EndBreaks {S} answers breaks fault old kept written new =
    (opening : S) (input before : List ℕ)
    → Going answers opening input kept before old
    → BrokenScript answers breaks fault true opening input (before ++ written) new
