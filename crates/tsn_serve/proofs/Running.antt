-- How a run over lines goes on, by a byte, a line feed, a piece or the end of the input.
use Rattle.std.proofs.Common.{◌≡◌, ◌≢◌, inl, inr, ℕ, ◌≤◌, ◌++◌, length, true, false, List, [], ◌∷◌, Option, Some, refl, sym, ap, ◌∙◌, subst, append_assoc, append-nil}
use Rattle.std.specs.List.{flat_map}
use Rattle.tsn_bytes.specs.declared.bytes.Fault.{Fault}
use Rattle.tsn_serve.specs.Lines.{line_feed, longest_line, HasNoLineFeed, Splits, with_line_feed, short_line, short_line_with}
use Rattle.tsn_serve.specs.Script.{Answering, Breaking, Run, AreFirst, BrokenScript}
use Rattle.tsn_serve.specs.Pieces.{Going, Feeds, Ends, Breaks, EndBreaks}
use Rattle.tsn_serve.proofs.Cutting.{short_line_short, short_line_with_is, splits_at_feed, splits_on, short_line_nil, last_of_kept}
use Rattle.tsn_wire.proofs.Spelling.{all_more}

-- one line more at the end of a run
pub run_more : {S : Type 0} (answers : Answering S) (old : S) (lines : List (List ℕ)) (text : List ℕ) (mid : S) (line reply : List ℕ)
    (new : S) → Run answers old lines text mid → answers mid (short_line line) reply new
    → Run answers old (lines ++ line ∷ []) (text ++ reply) new
run_more answers old [] text mid line reply new h a = (
  new,
  reply,
  [],
  subst (λ s. answers s (short_line line) reply new) h.1 a,
  (refl, refl),
  ap (λ t. t ++ reply) h.0
      ∙ sym (append-nil reply),
)
run_more answers old (l ∷ ls) text mid line reply new h a = (
  h.0,
  h.1,
  h.2 ++ reply,
  h.3,
  run_more answers h.0 ls h.2 mid line reply new h.4 a,
  ap (λ t. t ++ reply) h.5
      ∙ append_assoc h.1 h.2 reply,
)

-- before the first byte nothing is kept and nothing written
pub opened : {S : Type 0} (answers : Answering S) (s : S) → Going answers s [] (Some []) [] s
opened answers s =
    record { lines = []; rest = []; splits = record { whole = refl; each = tt; last = tt }; kept_is = refl; run = (refl, refl) }

-- ---- pieces

-- bytes without a line feed go on the line that is kept
pub fed_bytes : {S : Type 0} (answers : Answering S) (now : S) (kept : Option (List ℕ)) (more : List ℕ) (kept' : Option (List ℕ))
    → HasNoLineFeed more → kept' ≡ short_line_with kept more → Feeds answers now kept more [] now kept'
fed_bytes answers now kept more kept' other e opening input before h = record {
  lines = h.lines;
  rest = h.rest ++ more;
  splits = splits_on input h.lines h.rest more other h.splits;
  kept_is = e ∙ (ap (λ k. short_line_with k more) h.kept_is ∙ short_line_with_is h.rest more);
  run = rw append-nil h.run;
}

-- a line feed ends the line that is kept, which is answered
pub fed_line : {S : Type 0} (answers : Answering S) (old : S) (kept : Option (List ℕ)) (b : ℕ) (text : List ℕ) (new : S)
    (kept' : Option (List ℕ)) → b ≡ line_feed → kept' ≡ Some [] → answers old kept text new → Feeds answers old kept (b ∷ []) text new kept'
fed_line answers old kept b text new kept' at_feed e a opening input before h = record {
  lines = h.lines ++ h.rest ∷ [];
  rest = [];
  splits = subst (λ c. Splits (input ++ c ∷ []) (h.lines ++ h.rest ∷ []) []) (sym at_feed) (splits_at_feed input h.lines h.rest h.splits);
  kept_is = e;
  run = run_more answers opening h.lines before old h.rest text new h.run (subst (λ k. answers old k text new) h.kept_is a);
}

-- a line that lies whole in the input, where nothing was kept, goes on the text before it
on_whole : (input : List ℕ) (lines : List (List ℕ)) (rest bytes : List ℕ) → rest ≡ [] → HasNoLineFeed bytes → Splits input lines rest
    → Splits (input ++ bytes) lines bytes
on_whole input lines rest bytes none one s = record {
  whole = ap (λ l. l ++ bytes) (s.whole ∙ ap (λ r. flat_map with_line_feed lines ++ r) none ∙ append-nil (flat_map with_line_feed lines));
  each = s.each;
  last = one;
}

-- such a line is answered
pub fed_whole : {S : Type 0} (answers : Answering S) (old : S) (kept : Option (List ℕ)) (bytes text : List ℕ) (new : S) → kept ≡ Some []
    → HasNoLineFeed bytes → length bytes ≤ longest_line → answers old (Some bytes) text new
    → Feeds answers old kept (bytes ++ line_feed ∷ []) text new kept
fed_whole answers old kept bytes text new fresh one short a opening input before h =
    let none = short_line_nil h.rest (sym fresh ∙ h.kept_is) in
    let splits = splits_at_feed (input ++ bytes) h.lines bytes (on_whole input h.lines h.rest bytes none one h.splits) in record {
      lines = h.lines ++ bytes ∷ [];
      rest = [];
      splits = subst (λ l. Splits l (h.lines ++ bytes ∷ []) []) (append_assoc input bytes (line_feed ∷ [])) splits;
      kept_is = fresh;
      run = run_more answers opening h.lines before old bytes text new h.run
          (subst (λ k. answers old k text new) (sym (short_line_short bytes short)) a);
    }

-- no byte
pub fed_nothing : {S : Type 0} (answers : Answering S) (now : S) (kept : Option (List ℕ)) → Feeds answers now kept [] [] now kept
fed_nothing answers now kept opening input before h =
    subst (λ i. Going answers opening i kept (before ++ []) now) (sym (append-nil input))
    (subst (λ t. Going answers opening input kept t now) (sym (append-nil before)) h)

-- a piece after a piece
pub fed_more : {S : Type 0} (answers : Answering S) (a b c : S) (k l m : Option (List ℕ)) (p q t u : List ℕ) → Feeds answers a k p t b l
    → Feeds answers b l q u c m → Feeds answers a k (p ++ q) (t ++ u) c m
fed_more answers a b c k l m p q t u f g opening input before h =
    let r = g opening (input ++ p) (before ++ t) (f opening input before h) in
    simp append_assoc at r

-- a piece under another name
pub fed_as : {S : Type 0} (answers : Answering S) (a b : S) (k l : Option (List ℕ)) (p q t : List ℕ) → p ≡ q → Feeds answers a k p t b l
    → Feeds answers a k q t b l
fed_as answers a b k l p q t e f = subst (λ x. Feeds answers a k x t b l) e f

-- ---- the end of the input

-- right after a line feed it ends no line
pub ended_empty : {S : Type 0} (answers : Answering S) (now : S) (kept : Option (List ℕ)) → kept ≡ Some [] → Ends answers now kept [] now
ended_empty answers now kept e opening input before h =
    let none = short_line_nil h.rest (sym e ∙ h.kept_is) in
    (h.lines, h.rest, h.splits, rw (none, append-nil, append-nil) h.run)

-- else it ends the line that is kept, which is answered
pub ended_with : {S : Type 0} (answers : Answering S) (old : S) (kept : Option (List ℕ)) (text : List ℕ) (new : S) → kept ≢ Some []
    → answers old kept text new → Ends answers old kept text new
ended_with answers old kept text new some a opening input before h =
    let last = last_of_kept h.rest (λ e. some (h.kept_is ∙ e)) in (
      h.lines,
      h.rest,
      h.splits,
      rw last
          (run_more answers opening h.lines before old h.rest text new h.run (subst (λ k. answers old k text new) h.kept_is a)),
    )

-- ---- answers that break off

-- a line feed ends the line that is kept, whose answer breaks off
pub broken_line : {S : Type 0} (answers : Answering S) (breaks : Breaking S) (fault : Fault) (old : S) (kept : Option (List ℕ)) (b : ℕ)
    (part : List ℕ) (new : S) → b ≡ line_feed → breaks old kept fault part new → Breaks answers breaks fault old kept (b ∷ []) part new
broken_line answers breaks fault old kept b part new at_feed a opening input before h = record {
  lines = h.lines;
  line = h.rest;
  text = before;
  mid = old;
  part = part;
  first = inl ([], ap (λ c. input ++ c ∷ []) at_feed ∙ (splits_at_feed input h.lines h.rest h.splits).whole);
  each = all_more HasNoLineFeed h.lines h.rest h.splits.each h.splits.last;
  run = h.run;
  broken = subst (λ k. breaks old k fault part new) h.kept_is a;
  written_is = refl;
}

-- the answer to a line that lies whole in the input breaks off
pub broken_whole : {S : Type 0} (answers : Answering S) (breaks : Breaking S) (fault : Fault) (old : S) (kept : Option (List ℕ))
    (bytes part : List ℕ) (new : S) → kept ≡ Some [] → HasNoLineFeed bytes → length bytes ≤ longest_line
    → breaks old (Some bytes) fault part new → Breaks answers breaks fault old kept (bytes ++ line_feed ∷ []) part new
broken_whole answers breaks fault old kept bytes part new fresh one short a opening input before h =
    let none = short_line_nil h.rest (sym fresh ∙ h.kept_is) in
    let splits = splits_at_feed (input ++ bytes) h.lines bytes (on_whole input h.lines h.rest bytes none one h.splits) in record {
      lines = h.lines;
      line = bytes;
      text = before;
      mid = old;
      part = part;
      first = inl ([], sym (append_assoc input bytes (line_feed ∷ [])) ∙ splits.whole);
      each = all_more HasNoLineFeed h.lines bytes h.splits.each one;
      run = h.run;
      broken = subst (λ k. breaks old k fault part new) (sym (short_line_short bytes short)) a;
      written_is = refl;
    }

-- the end of the input ends the line that is kept, whose answer breaks off
pub broken_at_end : {S : Type 0} (answers : Answering S) (breaks : Breaking S) (fault : Fault) (old : S) (kept : Option (List ℕ))
    (part : List ℕ) (new : S) → kept ≢ Some [] → breaks old kept fault part new → EndBreaks answers breaks fault old kept part new
broken_at_end answers breaks fault old kept part new some a opening input before h = record {
  lines = h.lines;
  line = h.rest;
  text = before;
  mid = old;
  part = part;
  first = inr (refl, (λ e. some (h.kept_is ∙ ap short_line e)), h.splits.whole);
  each = all_more HasNoLineFeed h.lines h.rest h.splits.each h.splits.last;
  run = h.run;
  broken = subst (λ k. breaks old k fault part new) h.kept_is a;
  written_is = refl;
}

-- lines that come first still do when more input comes
first_on : (input : List ℕ) (lines : List (List ℕ)) (line q : List ℕ) → AreFirst false input lines line
    → AreFirst false (input ++ q) lines line
first_on input lines line q h =
    elim h [
      | inl p ↦ inl (p.0 ++ q, ap (λ bs. bs ++ q) p.1 ∙ append_assoc (flat_map with_line_feed (lines ++ line ∷ [])) p.0 q)
      | inr p ↦
          absurd (let e : false ≡ true = p.0 in cc)
    ]

-- input after the line whose answer broke off changes nothing
broken_on : {S : Type 0} (answers : Answering S) (breaks : Breaking S) (fault : Fault) (opening : S) (input written : List ℕ) (now : S)
    (q : List ℕ) → BrokenScript answers breaks fault false opening input written now
    → BrokenScript answers breaks fault false opening (input ++ q) written now
broken_on answers breaks fault opening input written now q h = record {
  lines = h.lines;
  line = h.line;
  text = h.text;
  mid = h.mid;
  part = h.part;
  first = first_on input h.lines h.line q h.first;
  each = h.each;
  run = h.run;
  broken = h.broken;
  written_is = h.written_is;
}

-- a piece after it
pub broken_more : {S : Type 0} (answers : Answering S) (breaks : Breaking S) (fault : Fault) (a c : S) (k : Option (List ℕ))
    (p q w : List ℕ) → Breaks answers breaks fault a k p w c → Breaks answers breaks fault a k (p ++ q) w c
broken_more answers breaks fault a c k p q w f opening input before h =
    let r = broken_on answers breaks fault opening (input ++ p) (before ++ w) c q (f opening input before h) in
    simp append_assoc at r

-- a piece before it
pub broken_after : {S : Type 0} (answers : Answering S) (breaks : Breaking S) (fault : Fault) (a b c : S) (k l : Option (List ℕ))
    (p q t w : List ℕ) → Feeds answers a k p t b l → Breaks answers breaks fault b l q w c
    → Breaks answers breaks fault a k (p ++ q) (t ++ w) c
broken_after answers breaks fault a b c k l p q t w f g opening input before h =
    let r = g opening (input ++ p) (before ++ t) (f opening input before h) in
    simp append_assoc at r

-- the piece under another name
pub broken_as : {S : Type 0} (answers : Answering S) (breaks : Breaking S) (fault : Fault) (a c : S) (k : Option (List ℕ)) (p q w : List ℕ)
    → p ≡ q → Breaks answers breaks fault a k p w c → Breaks answers breaks fault a k q w c
broken_as answers breaks fault a c k p q w e f = subst (λ x. Breaks answers breaks fault a k x w c) e f
