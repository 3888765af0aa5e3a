-- What is written for an input, by what may be written for a line.
use Rattle.std.specs.Prelude.{◌≡◌, ◌≢◌, ◌⊎◌, ℕ, ◌<◌, ◌++◌, List, [], ◌∷◌, Bool, true, false, length, take, Option}
use Rattle.std.specs.List.{flat_map, AllByRecursion}
use Rattle.tsn_bytes.specs.declared.bytes.Fault.{Fault}
use Rattle.tsn_serve.specs.Lines.{Splits, HasNoLineFeed, with_line_feed, last_line, short_line}

-- What may be written for a line: answers old line text new says that from the state old the line may have this
-- text, its line feed in it, with the state new after it. None is a line that is too long.
abbrev pub Answering : Type 0 → Type 1
Answering S = S → Option (List ℕ) → List ℕ → S → Type 0

-- How an answer may break off: breaks old line fault part new says that from the state old the answer to the line may
-- end by this fault, with this part of it written and the state new after it.
abbrev pub Breaking : Type 0 → Type 1
Breaking S = S → Option (List ℕ) → Fault → List ℕ → S → Type 0

-- The part is a front of the text, and not all of it.
abbrev pub IsFront : List ℕ → List ℕ → Type 0
IsFront part text = (n : ℕ) × (n < length text) × (part ≡ take n text)

-- Each line is answered once, in order: the text is the replies one after another, with the state going on.
abbrev pub Run : {S : Type 0} → Answering S → S → List (List ℕ) → List ℕ → S → Type 0
Run answers old [] text new = (text ≡ []) × (new ≡ old)
Run {S} answers old (line ∷ lines) text new =
    (mid : S) × (reply : List ℕ) × (more : List ℕ)
    × answers old (short_line line) reply mid
    × Run answers mid lines more new
    × (text ≡ reply ++ more)

-- The text of a script: a run over all lines of the input.
abbrev pub IsScript : {S : Type 0} → Answering S → S → List ℕ → List ℕ → S → Type 0
IsScript answers old input text new =
    (lines : List (List ℕ)) × (rest : List ℕ)
    × Splits input lines rest
    × Run answers old (lines ++ last_line rest) text new

-- The text of a script whose input broke off: a run over the lines that a line feed ended.
abbrev pub OpenScript : {S : Type 0} → Answering S → S → List ℕ → List ℕ → S → Type 0
OpenScript answers old input text new =
    (lines : List (List ℕ)) × (rest : List ℕ)
    × Splits input lines rest
    × Run answers old lines text new

-- The text of all lines that ended, at the end of the input or before it.
abbrev pub AllAnswered : {S : Type 0} → Answering S → Bool → S → List ℕ → List ℕ → S → Type 0
AllAnswered answers true old input text new = IsScript answers old input text new
AllAnswered answers false old input text new = OpenScript answers old input text new

-- The input begins with these lines and then this one, each ended by its line feed; or, where the input is at its
-- end, they are all of it, and the last is ended by that.
abbrev pub AreFirst : Bool → List ℕ → List (List ℕ) → List ℕ → Type 0
AreFirst at_end input lines line =
    ((more : List ℕ) × (input ≡ flat_map with_line_feed (lines ++ line ∷ []) ++ more))
    ⊎ ((at_end ≡ true) × (line ≢ []) × (input ≡ flat_map with_line_feed lines ++ line))

-- The text of a script that broke off in an answer: a run over the first lines, of which each reply went out, and
-- then a line whose answer broke off. The state is that after this line.
pub record BrokenScript {S : Type 0} (answers : Answering S) (breaks : Breaking S) (fault : Fault) (at_end : Bool) (opening : S)
    (input written : List ℕ) (now : S) : Type 0 where
  pub lines : List (List ℕ)
  pub line : List ℕ
  pub text : List ℕ
  pub mid : S
  pub part : List ℕ
  pub first : AreFirst at_end input lines line
  pub each : AllByRecursion HasNoLineFeed (lines ++ line ∷ [])
  pub run : Run answers opening lines text mid
  pub broken : breaks mid (short_line line) fault part now
  pub written_is : written ≡ text ++ part
