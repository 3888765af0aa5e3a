-- Texts of command lines: one more line, and the first one taken off.
use Rattle.std.proofs.Common.{◌≡◌, ◌≢◌, ℕ, ◌+◌, ◌-◌, ◌==◌, Bool, true, false, List, [], ◌∷◌, ◌++◌, length, take, drop, refl, sym, subst, ◌∙◌, ap, append_assoc, Option, Some, None}
use Rattle.std.specs.Prelude.{All}
use Rattle.std.proofs.lemmas.Bool.{eqb-true}
use Rattle.std.proofs.lemmas.List.{take_rest}
use Rattle.std.proofs.lemmas.List.Elements.{All-append, All-cons, All-head, All-nil, All-same, All-tail}
use Rattle.tsn_recorded.specs.Text.{line_feed}
use Rattle.memchr.specs.Find.{IsFirstByte, is_byte}
use Rattle.tsn_recorded.proofs.Lines.{found, free_front, missing, split_at}
use Rattle.tsn_recorded.proofs.Splitting.{has_one, same_parts}
use Rattle.tsn_commit.specs.Lines.{AreLines, IsLine, behind_byte, lines_in, lines_text}

-- the empty text
pub none_are : AreLines []
none_are = record { ended = refl; lines = All-nil IsLine }

not_feed : (b : ℕ) → b ≢ line_feed → (t : Bool) → (b == line_feed) ≡ t → t ≡ false
not_feed b other true is = absurd (other (eqb-true b line_feed is))
not_feed b other false is = refl

-- A line and its line feed stand ahead of other lines.
pub lines_in-line : (line rest : List ℕ) → All (λ b. b ≢ line_feed) line → lines_in (line ++ line_feed ∷ rest) ≡ line ∷ lines_in rest
lines_in-line [] rest free = refl
lines_in-line (b ∷ line) rest free =
    let other = not_feed b (All-head (λ b. b ≢ line_feed) b line free) (b == line_feed) refl in
    let more = lines_in-line line rest (All-tail (λ b. b ≢ line_feed) b line free) in
    ap (λ t. behind_byte t b (lines_in (line ++ line_feed ∷ rest))) other ∙ ap (behind_byte false b) more

pub lines_in-text : (lines : List (List ℕ)) → All IsLine lines → lines_in (lines_text lines) ≡ lines
lines_in-text [] all = refl
lines_in-text (line ∷ lines) all =
    let one = All-head IsLine line lines all in
    lines_in-line line (lines_text lines) one.free ∙ ap (λ ls. line ∷ ls) (lines_in-text lines (All-tail IsLine line lines all))

lines_text-append : (xs ys : List (List ℕ)) → lines_text (xs ++ ys) ≡ lines_text xs ++ lines_text ys
lines_text-append [] ys = refl
lines_text-append (x ∷ xs) ys =
    ap (λ t. x ++ line_feed ∷ t) (lines_text-append xs ys) ∙ sym (append_assoc x (line_feed ∷ lines_text xs) (lines_text ys))

module _ (text line : List ℕ) (are : AreLines text) (is : IsLine line) where
  abbrev more : List (List ℕ)
  more = lines_in text ++ line ∷ []

  more_text : lines_text more ≡ (text ++ line) ++ line_feed ∷ []
  more_text =
      lines_text-append (lines_in text) (line ∷ [])
      ∙ ap (λ t. t ++ (line ++ line_feed ∷ [])) are.ended
      ∙ sym (append_assoc text line (line_feed ∷ []))

  all : All IsLine more
  all = All-append IsLine (lines_in text) (line ∷ []) are.lines (All-cons IsLine line [] is (All-nil IsLine))

  -- One more line.
  pub lines_in-more : lines_in ((text ++ line) ++ line_feed ∷ []) ≡ more
  lines_in-more = ap lines_in (sym more_text) ∙ lines_in-text more all

  pub more_are : AreLines ((text ++ line) ++ line_feed ∷ [])
  more_are = record {
    ended = ap lines_text lines_in-more ∙ more_text;
    lines = All-same IsLine (lines_in ((text ++ line) ++ line_feed ∷ [])) more lines_in-more all;
  }

-- What the first line is, and what stands behind it.
pub record First (text line rest : List ℕ) : Type 0 where
  pub is : lines_in text ≡ line ∷ lines_in rest
  pub line_is : IsLine line
  pub others : AreLines rest

module _ (text line rest : List ℕ) (are : AreLines text) (free : All (λ b. b ≢ line_feed) line) (cut : text ≡ line ++ line_feed ∷ rest)
  where
    first_is : lines_in text ≡ line ∷ lines_in rest
    first_is = ap lines_in cut ∙ lines_in-line line rest free

    pub first_of : First text line rest
    first_of =
        let all = All-same IsLine (line ∷ lines_in rest) (lines_in text) (sym first_is) are.lines in
        let joined : line ++ line_feed ∷ lines_text (lines_in rest) ≡ line ++ line_feed ∷ rest = ap lines_text (sym first_is) ∙ are.ended
        ∙ cut in
        record {
          is = first_is;
          line_is = All-head IsLine line (lines_in rest) all;
          others = record {
            ended = (same_parts line_feed line (lines_text (lines_in rest)) line rest free free joined).1;
            lines = All-tail IsLine line (lines_in rest) all;
          };
        }

no_lines : (text : List ℕ) (lines : List (List ℕ)) → lines_text lines ≡ text → All (λ b. b ≢ line_feed) text → lines ≡ []
no_lines text [] is free = refl
no_lines text (line ∷ lines) is free =
    absurd (has_one line_feed line (lines_text lines) (All-same (λ b. b ≢ line_feed) (lines_text (line ∷ lines)) text is free))

-- A text of lines with no line feed has no line.
pub none_in : (text : List ℕ) → AreLines text → All (λ b. b ≢ line_feed) text → lines_in text ≡ []
none_in text are free = no_lines text (lines_in text) are.ended free

-- What a search for a line feed finds.
module _ (text : List ℕ) (r : Option ℕ) (are : AreLines text) (answer : IsFirstByte (is_byte line_feed) text r) where
  pub cut_at : (k : ℕ) → r ≡ Some k → First text (take k text) (take (length text - (k + 1)) (drop (k + 1) text))
  cut_at k is =
      let first = found line_feed text text refl r answer k is in
      let P : List ℕ → Type 0 = λ rest. First text (take k text) rest in
      subst P (sym (take_rest text (k + 1)))
      (first_of text (take k text) (drop (k + 1) text) are (free_front line_feed text k first.before)
      (split_at line_feed text k first.inside first.here))

  pub no_cut : r ≡ None → lines_in text ≡ []
  no_cut is = none_in text are (missing line_feed text text refl r answer is)
