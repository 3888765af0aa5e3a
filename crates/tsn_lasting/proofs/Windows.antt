-- Window after window.
use Rattle.std.proofs.Common.{◌≡◌, ℕ, Bool, inl, inr, List, [], ◌∷◌, ◌++◌, Option, refl, sym, ◌∙◌, ap, subst, append_assoc, map, true, false}
use Rattle.std.specs.List.{AllByRecursion, flat_map}
use Rattle.std.proofs.lemmas.Grind.{flat_map-append}
use Rattle.std.proofs.lemmas.List.{append-nil, map-append}
use Rattle.tsn_bytes.specs.declared.bytes.Fault.{Fault}
use Rattle.tsn_serve.specs.Lines.{HasNoLineFeed, Splits, last_line, short_line, with_line_feed}
use Rattle.tsn_serve.specs.Pieces.{Breaks as PieceBreaks, EndBreaks, Ends as PieceEnds, Feeds, Going}
use Rattle.tsn_serve.specs.Script.{AreFirst, Run}
use Rattle.tsn_lasting.specs.Parts.{Answers, AnswersBreak, Parts, standing}
use Rattle.tsn_lasting.specs.Running.{AreRead, Goes, IsBroken, IsWhole}
use Rattle.tsn_lasting.specs.Standing.{HasAnswered, Lasts, Standing}

all-append : (xs ys : List (List ℕ)) → AllByRecursion HasNoLineFeed xs → AllByRecursion HasNoLineFeed ys
    → AllByRecursion HasNoLineFeed (xs ++ ys)
all-append [] ys h k = k
all-append (x ∷ xs) ys h k = (h.0, all-append xs ys h.1 k)

module _ {W : Type 0} (taken : W → Option (List ℕ)) where
  abbrev at : Parts W → Standing
  at p = standing taken p

  run_answers : (s0 : Standing) (ls : List (Option (List ℕ))) (old : Parts W) (lines : List (List ℕ)) (text : List ℕ) (new : Parts W)
      → Run (Answers taken) old lines text new → HasAnswered s0 ls (at old) → HasAnswered s0 (ls ++ map short_line lines) (at new)
  run_answers s0 ls old [] text new run has =
      subst (λ p. HasAnswered s0 (ls ++ []) (at p)) (sym run.1) (subst (λ xs. HasAnswered s0 xs (at old)) (sym (append-nil ls)) has)
  run_answers s0 ls old (line ∷ lines) text new (mid, reply, more, answered, rest, same) has =
      subst (λ xs. HasAnswered s0 xs (at new)) (append_assoc ls (short_line line ∷ []) (map short_line lines))
      (run_answers s0 (ls ++ short_line line ∷ []) mid lines more new rest (answered.1 s0 ls has))

  -- nothing was answered yet of what is held
  going : (old : Parts W) (held : Option (List ℕ)) (rest : List ℕ) → HasNoLineFeed rest → held ≡ short_line rest
      → Going (Answers taken) old rest held [] old
  going old held rest free held_is =
      record { lines = []; rest = rest; splits = record { whole = refl; each = tt; last = free }; kept_is = held_is; run = (refl, refl) }

  module _ (s0 : Standing) (input : List ℕ) (held : Option (List ℕ)) (old : Parts W) (goes : Goes s0 input held (at old)) where
    pub fed : (piece text : List ℕ) (new : Parts W) (held' : Option (List ℕ)) → Feeds (Answers taken) old held piece text new held'
        → Goes s0 (input ++ piece) held' (at new)
    fed piece text new held' feeds =
        let on = feeds old goes.rest [] (going old held goes.rest goes.splits.last goes.held_is) in
        record {
          lines = goes.lines ++ on.lines;
          rest = on.rest;
          splits = record {
            whole = ap (λ t. t ++ piece) goes.splits.whole ∙ append_assoc (flat_map with_line_feed goes.lines) goes.rest piece
                ∙ ap (λ t. flat_map with_line_feed goes.lines ++ t) on.splits.whole
                ∙ sym (append_assoc (flat_map with_line_feed goes.lines) (flat_map with_line_feed on.lines) on.rest)
                ∙ ap (λ t. t ++ on.rest) (sym (flat_map-append with_line_feed goes.lines on.lines));
            each = all-append goes.lines on.lines goes.splits.each on.splits.each;
            last = on.splits.last;
          };
          held_is = on.kept_is;
          answered = subst (λ xs. HasAnswered s0 xs (at new)) (sym (map-append short_line goes.lines on.lines))
              (run_answers s0 (map short_line goes.lines) old on.lines ([] ++ text) new on.run goes.answered);
        }

    begins : (piece : List ℕ) → input ++ piece ≡ flat_map with_line_feed goes.lines ++ (goes.rest ++ piece)
    begins piece = ap (λ t. t ++ piece) goes.splits.whole ∙ append_assoc (flat_map with_line_feed goes.lines) goes.rest piece

    both : (lines : List (List ℕ)) (rest : List ℕ)
        → flat_map with_line_feed goes.lines ++ (flat_map with_line_feed lines ++ rest) ≡ flat_map with_line_feed (goes.lines ++ lines)
        ++ rest
    both lines rest = sym (append_assoc (flat_map with_line_feed goes.lines) (flat_map with_line_feed lines) rest)
        ∙ ap (λ t. t ++ rest) (sym (flat_map-append with_line_feed goes.lines lines))

    broken_lasts : (bs : List (List ℕ)) (text : List ℕ) (mid : Parts W) (line : List ℕ) (fault : Fault) (part : List ℕ) (new : Parts W)
        → Run (Answers taken) old bs text mid → AnswersBreak taken mid (short_line line) fault part new
        → Lasts s0 (map short_line (goes.lines ++ bs) ++ short_line line ∷ []) (at new)
    broken_lasts bs text mid line fault part new run broken =
        subst (λ xs. Lasts s0 (xs ++ short_line line ∷ []) (at new)) (sym (map-append short_line goes.lines bs))
        (broken.1 s0 (map short_line goes.lines ++ map short_line bs)
        (run_answers s0 (map short_line goes.lines) old bs text mid run goes.answered))

    first_read : (at_end : Bool) (whole : List ℕ) (bs : List (List ℕ)) (line piece : List ℕ) → whole ≡ goes.rest ++ piece
        → AreFirst at_end whole bs line → AreRead (input ++ piece) (goes.lines ++ bs)
    first_read at_end whole bs line piece is (inl begun) = (
      flat_map with_line_feed (line ∷ []) ++ begun.0,
      begins piece ∙ ap (λ t. flat_map with_line_feed goes.lines ++ t)
          (sym is ∙ begun.1 ∙ ap (λ t. t ++ begun.0) (flat_map-append with_line_feed bs (line ∷ []))
          ∙ append_assoc (flat_map with_line_feed bs) (flat_map with_line_feed (line ∷ [])) begun.0)
          ∙ both bs (flat_map with_line_feed (line ∷ []) ++ begun.0),
    )
    first_read at_end whole bs line piece is (inr ended) =
        (line, begins piece ∙ ap (λ t. flat_map with_line_feed goes.lines ++ t) (sym is ∙ ended.2) ∙ both bs line)

    pub broke : (fault : Fault) (piece written : List ℕ) (new : Parts W)
        → PieceBreaks (Answers taken) (AnswersBreak taken) fault old held piece written new → IsBroken s0 (input ++ piece) (at new)
    broke fault piece written new breaks =
        let b = breaks old goes.rest [] (going old held goes.rest goes.splits.last goes.held_is) in
        record {
          lines = goes.lines ++ b.lines;
          read = first_read false (goes.rest ++ piece) b.lines b.line piece refl b.first;
          others = short_line b.line ∷ [];
          lasts = broken_lasts b.lines b.text b.mid b.line fault b.part new b.run b.broken;
        }

    pub ended : (text : List ℕ) (new : Parts W) → PieceEnds (Answers taken) old held text new → IsWhole s0 input (at new)
    ended text new ends =
        let (lines, rest, splits, run) = ends old goes.rest [] (going old held goes.rest goes.splits.last goes.held_is) in
        record {
          lines = goes.lines ++ lines;
          rest = rest;
          splits = record {
            whole = goes.splits.whole ∙ ap (λ t. flat_map with_line_feed goes.lines ++ t) splits.whole ∙ both lines rest;
            each = all-append goes.lines lines goes.splits.each splits.each;
            last = splits.last;
          };
          answered = subst (λ xs. HasAnswered s0 xs (at new))
              (sym (map-append short_line goes.lines (lines ++ last_line rest))
              ∙ ap (map short_line) (sym (append_assoc goes.lines lines (last_line rest))))
              (run_answers s0 (map short_line goes.lines) old (lines ++ last_line rest) ([] ++ text) new run goes.answered);
        }

    pub end_broke : (fault : Fault) (written : List ℕ) (new : Parts W)
        → EndBreaks (Answers taken) (AnswersBreak taken) fault old held written new → IsBroken s0 input (at new)
    end_broke fault written new breaks =
        let b = breaks old goes.rest [] (going old held goes.rest goes.splits.last goes.held_is) in
        record {
          lines = goes.lines ++ b.lines;
          read = subst (λ t. AreRead t (goes.lines ++ b.lines)) (append-nil input)
              (first_read true goes.rest b.lines b.line [] (sym (append-nil goes.rest)) b.first);
          others = short_line b.line ∷ [];
          lasts = broken_lasts b.lines b.text b.mid b.line fault b.part new b.run b.broken;
        }

    -- what was answered lasts, with nothing more read
    pub stopped : (new : Parts W) → Lasts s0 (map short_line goes.lines) (at new) → IsBroken s0 input (at new)
    stopped new lasts = record {
      lines = goes.lines;
      read = (goes.rest, goes.splits.whole);
      others = [];
      lasts = subst (λ xs. Lasts s0 xs (at new)) (sym (append-nil (map short_line goes.lines))) lasts;
    }
