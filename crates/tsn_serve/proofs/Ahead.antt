-- Lines that were read ahead: how a lot grows, and how the line in front is answered.
use Rattle.std.proofs.Common.{◌≡◌, ℕ, ◌+◌, ◌-◌, ◌≤◌, ◌++◌, List, [], ◌∷◌, length, take, drop, Option, Some, Result, refl, sym, ap, subst, ◌∙◌, append_assoc, take-append-drop, drop-drop, length-append, arith}
use Rattle.std.proofs.lemmas.List.{take_rest}
use Rattle.std.proofs.Math.Seq.{take-append_seam}
use Rattle.tsn_types.specs.declared.refusals.Refusal.{Refusal}
use Rattle.tsn_commands.specs.declared.command.Ask.{Ask}
use Rattle.tsn_bytes.specs.declared.bytes.Fault.{Fault}
use Rattle.tsn_serve.specs.declared.lots.ReadLine.{ReadLine}
use Rattle.tsn_serve.specs.Lines.{HasNoLineFeed, line_feed, longest_line}
use Rattle.tsn_serve.specs.Script.{Answering, Breaking}
use Rattle.tsn_serve.specs.Pieces.{Feeds, Breaks}
use Rattle.tsn_serve.specs.Answers.{MayRead}
use Rattle.tsn_serve.specs.Lots.{IsFront, IsLot}
use Rattle.tsn_serve.proofs.Running.{fed_whole, fed_as, broken_whole, broken_more, broken_as}

-- a line that lies whole in front, and was read
pub front_of : (bytes line : List ℕ) (read : Result Ask Refusal) → take (length line + 1) bytes ≡ line ++ line_feed ∷ []
    → HasNoLineFeed line → length line ≤ longest_line → MayRead (Some line) read → IsFront bytes (length line + 1) read
front_of bytes line read front one short may =
    let behind = drop (length line + 1) bytes in
    let whole : bytes ≡ line ++ line_feed ∷ behind = sym (take-append-drop (length line + 1) bytes)
    ∙ (ap (λ t. t ++ behind) front ∙ append_assoc line (line_feed ∷ []) behind) in
    (line, behind, whole, one, short, refl, may)

-- one line more at the end of a lot
pub lot_more : (bytes : List ℕ) (rs : List ReadLine) (mid : List ℕ) (r : ReadLine) → IsLot bytes rs mid → IsFront mid r.count r.read
    → IsLot bytes (rs ++ r ∷ []) (drop r.count mid)
lot_more bytes [] mid r h one = (subst (λ b. IsFront b r.count r.read) (sym h) one, ap (λ b. drop r.count b) h)
lot_more bytes (q ∷ qs) mid r h one = (h.0, lot_more (drop q.count bytes) qs mid r h.1 one)

-- one line more that was read, behind those of a lot
pub lot_read : (bytes : List ℕ) (done : ℕ) (rs : List ReadLine) (r : ReadLine) → IsLot bytes rs (drop done bytes)
    → IsFront (take (length bytes - done) (drop done bytes)) r.count r.read → IsLot bytes (rs ++ r ∷ []) (drop (done + r.count) bytes)
lot_read bytes done rs r lot one =
    subst (λ b. IsLot bytes (rs ++ r ∷ []) b) (drop-drop r.count done bytes)
    (lot_more bytes rs (drop done bytes) r lot (subst (λ b. IsFront b r.count r.read) (take_rest bytes done) one))

-- ---- the line in front

module _ (bytes : List ℕ) (count : ℕ) (read : Result Ask Refusal) (h : IsFront bytes count read) where
  -- the line with its line feed
  abbrev pub line : List ℕ
  line = h.0 ++ line_feed ∷ []

  whole : bytes ≡ line ++ h.1
  whole = h.2 ∙ sym (append_assoc h.0 (line_feed ∷ []) h.1)

  long : count ≡ length line
  long = h.5 ∙ sym (length-append h.0 (line_feed ∷ []))

  -- it is the front of the bytes
  pub front_is : take count bytes ≡ line
  front_is = ap (λ n. take n bytes) long ∙ (ap (λ b. take (length line) b) whole ∙ take-append_seam line h.1)

  pub front_fits : count ≤ length bytes
  front_fits =
      let all = ap length whole ∙ length-append line h.1 in
      omega (arith, all, long)

  -- an answer to what was read is one to the line
  pub fed_front : {S : Type 0} (answers : Answering S) (old : S) (text : List ℕ) (new : S)
      → ((l : Option (List ℕ)) → MayRead l read → answers old l text new)
      → Feeds answers old (Some []) (take count bytes) text new (Some [])
  fed_front answers old text new all =
      fed_as answers old new (Some []) (Some []) line (take count bytes) text (sym front_is)
      (fed_whole answers old (Some []) h.0 text new refl h.3 h.4 (all (Some h.0) h.6))

  -- and one that breaks off
  pub broken_front : {S : Type 0} (answers : Answering S) (breaks : Breaking S) (fault : Fault) (old : S) (part : List ℕ) (new : S)
      → ((l : Option (List ℕ)) → MayRead l read → breaks old l fault part new) → Breaks answers breaks fault old (Some []) bytes part new
  broken_front answers breaks fault old part new all =
      broken_as answers breaks fault old new (Some []) (line ++ h.1) bytes part (sym whole)
      (broken_more answers breaks fault old new (Some []) line h.1 part
      (broken_whole answers breaks fault old (Some []) h.0 part new refl h.3 h.4 (all (Some h.0) h.6)))

-- the lot behind a line further on
pub lot_on : (bytes : List ℕ) (done : ℕ) (r : ReadLine) (rs : List ReadLine) (rest : List ℕ) → IsLot (drop done bytes) (r ∷ rs) rest
    → IsLot (drop (done + r.count) bytes) rs rest
lot_on bytes done r rs rest h = subst (λ b. IsLot b rs rest) (drop-drop r.count done bytes) h.1
