-- What was recorded of one command is entered: a line, or nothing.
use Rattle.std.specs.Prelude.{◌==◌, false, true}
use Rattle.std.proofs.Common.{◌≡◌, ◌≢◌, ℕ, ◌-◌, ◌≤◌, List, [], ◌∷◌, ◌++◌, Option, Some, None, refl, sym, ◌∙◌, ap, subst, arith, length, take}
use Rattle.std.proofs.lemmas.List.{append-nil, length-append, take-append-le, take_all}
use Rattle.tsn_bridge.specs.Histories.{Answered}
use Rattle.tsn_keeping.specs.Keeping.{Keeping, with_entered}
use Rattle.tsn_recorded.specs.Text.{AreRecordedAfter, IsRecordedAfter, Recorded, text_of as text_of_line}
use Rattle.tsn_keeping.proofs.Stamped.{stamped_fits}
use Rattle.tsn_replay.specs.Recorder.{HasLine, line_feed, text_of}
use Rattle.tsn_serve.specs.Lines.{longest_line}
use Rattle.tsn_spelling.specs.Line.{line_text}
use Rattle.tsn_lasting.specs.Parts.{Puts}
use Rattle.tsn_keeping.specs.Stamps.{IsStamp}

abbrev one_of : List ℕ → List ℕ → Recorded
one_of stamp text = record { stamp = stamp; command = take (length text - 1) text }

pub no_length : (text : List ℕ) → false ≡ (length text == 0) → length text ≡ 0 → ⊥
no_length text some none = let same : (length text == 0) ≡ true = ap (λ n. n == 0) none in (cc)

command_is : (text : List ℕ) (t : Answered) → text ≡ text_of line_text (Some t) → take (length text - 1) text ≡ line_text t.ask
command_is text t is =
    let line = line_text t.ask in
    let count : length text - 1 ≡ length line = omega (arith, ap length is, length-append line (line_feed ∷ [])) in
    (λ i. take (count i) (is i)) ∙ take-append-le (length line) line (line_feed ∷ []) (omega arith)
    ∙ take_all (length line) line (omega arith)

well : (last stamp text : List ℕ) (t : Answered) → text ≡ text_of line_text (Some t) → IsStamp stamp
    → HasLine line_text longest_line (Some t) → AreRecordedAfter last (one_of stamp text ∷ [])
well last stamp text t is word line =
    subst (λ c. AreRecordedAfter last (record { stamp = stamp; command = c } ∷ [])) (sym (command_is text t is))
    (stamped_fits last stamp (line_text t.ask) word line.0 line.1, tt)

pub enter_well : (last stamp text : List ℕ) (t : Option Answered) → (length text ≡ 0 → ⊥) → text ≡ text_of line_text t → IsStamp stamp
    → HasLine line_text longest_line t → IsRecordedAfter last (one_of stamp text)
enter_well last stamp text None some is word line = absurd (some (ap length is))
enter_well last stamp text (Some t) some is word line = (well last stamp text t is word line).0

pub enter_none : (old : Keeping) (text : List ℕ) (t : Option Answered) → length text ≡ 0 → text ≡ text_of line_text t
    → (rs : List Recorded) × Puts old t rs old
enter_none old text None none is =
    ([], record { commands = refl; well = tt; last = refl; unsettled = sym (append-nil old.unsettled); kept = refl })
enter_none old text (Some t) none is = absurd (empty (ap length is))
  where
    empty : length text ≡ length (line_text t.ask ++ line_feed ∷ []) → ⊥
    empty same = omega (arith, same, none, length-append (line_text t.ask) (line_feed ∷ []))

pub enter_one : (old new : Keeping) (stamp text : List ℕ) (t : Option Answered) → (length text ≡ 0 → ⊥) → text ≡ text_of line_text t
    → IsStamp stamp → HasLine line_text longest_line t
    → new ≡ with_entered (one_of stamp text) old → (rs : List Recorded) × Puts old t rs new
enter_one old new stamp text None some is word line entered = absurd (some (ap length is))
enter_one old new stamp text (Some t) some is word line entered = (
  one_of stamp text ∷ [],
  record {
    commands = ap (λ c. c ∷ []) (command_is text t is);
    well = well old.last stamp text t is word line;
    last = ap (λ (k : Keeping). k.last) entered;
    unsettled = ap (λ (k : Keeping). k.unsettled) entered
        ∙ ap (λ u. old.unsettled ++ u) (sym (append-nil (text_of_line old.last (one_of stamp text))));
    kept = ap (λ (k : Keeping). k.kept) entered;
  },
)
