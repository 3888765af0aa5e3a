-- Lines that are answered one behind the other: what was read of them ahead, and how much of the bytes in front they are.
use Rattle.std.specs.Prelude.{◌≡◌, ℕ, ◌+◌, ◌≤◌, ◌++◌, List, [], ◌∷◌, length, drop, Option, Some, Result}
use Rattle.tsn_types.specs.declared.refusals.Refusal.{Refusal}
use Rattle.tsn_commands.specs.declared.command.Ask.{Ask}
use Rattle.tsn_bytes.specs.declared.bytes.Fault.{Fault}
use Rattle.tsn_serve.specs.declared.lots.ReadLine.{ReadLine}
use Rattle.tsn_serve.specs.Lines.{HasNoLineFeed, line_feed, longest_line}
use Rattle.tsn_serve.specs.Script.{Answering, Breaking}
use Rattle.tsn_serve.specs.Pieces.{FeedsFront}
use Rattle.tsn_serve.specs.Answers.{MayRead}

-- The bytes begin with a line of so many bytes, its line feed among them, and it is read as its text may be.
abbrev pub IsFront : List ℕ → ℕ → Result Ask Refusal → Type 0
IsFront bytes count read =
    (line : List ℕ) × (behind : List ℕ)
    × (bytes ≡ line ++ line_feed ∷ behind)
    × HasNoLineFeed line
    × (length line ≤ longest_line)
    × (count ≡ length line + 1)
    × MayRead (Some line) read

-- The bytes begin with these lines, and behind them is this rest.
abbrev pub IsLot : List ℕ → List ReadLine → List ℕ → Type 0
IsLot bytes [] rest = bytes ≡ rest
IsLot bytes (r ∷ rs) rest = IsFront bytes r.count r.read × IsLot (drop r.count bytes) rs rest

-- Where nothing is kept of a line: so many bytes in front are whole lines, one at least, which were answered; or an answer to one of the
-- lines broke off by this fault. What was written is the text of the answers, as far as it goes.
abbrev pub AnswersFront : {S : Type 0} → Answering S → Breaking S → S → List ℕ → Option (List ℕ) → Option (List ℕ) → Result ℕ Fault → S
    → Type 0
AnswersFront answers breaks old bytes taken taken' result new =
    FeedsFront answers breaks old (Some []) bytes taken taken' result new (Some [])
