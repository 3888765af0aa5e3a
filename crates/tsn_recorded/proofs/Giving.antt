-- How what was given goes on by a line, and by a piece that is fed.
use Rattle.std.proofs.Common.{◌≡◌, ◌≢◌, ◌⊎◌, inl, inr, ℕ, ◌+◌, Bool, true, false, List, [], ◌∷◌, ◌++◌, length, take, drop, sym, subst, ◌∙◌, ap, refl, arith}
use Rattle.std.proofs.lemmas.Grind.{common_steps}
use Rattle.std.specs.Prelude.{◌↔◌, All, Contains, IsTrue}
use Rattle.std.specs.Bool.{OnTrue, OnFalse}
use Rattle.std.proofs.lemmas.Bool.{false≢true}
use Rattle.std.proofs.lemmas.List.{append-nil, append_assoc, drop_at, get_or_default, length-append, length-take-le}
use Rattle.std.proofs.lemmas.List.Elements.{All-append, All-nil, All-same, Contains-append_left, Contains-append_right}
use Rattle.tsn_recorded.specs.declared.end.End.TheVariants.{Unfinished, Damaged}
use Rattle.tsn_recorded.specs.Text.{Recorded, IsRecordedAfter, body_of, digest_after, digest_length, line_feed, line_of, text_after, text_of}
use Rattle.tsn_recorded.specs.Reading.{BeginsWithLine, BeginsWithNone, IsEnd, Reads}
use Rattle.tsn_recorded.specs.Reader.{HasGiven, Standing}
use Rattle.tsn_recorded.proofs.Finding.{text_at}
use Rattle.tsn_recorded.proofs.Lines.{line_digest}
use Rattle.tsn_recorded.proofs.Readings.{are_recorded-append, last_digest-append, none_in_line, text_after-append}

-- one line further
pub record GoesOn (s next : Standing) (r : Recorded) : Type 0 where
  pub is : IsRecordedAfter s.last r
  pub held : s.held ≡ text_of s.last r ++ next.held
  pub last : next.last ≡ digest_after s.last (body_of r)
  pub lines : next.lines ≡ s.lines + 1
  pub good : next.good ≡ s.good + length (text_of s.last r)
  pub counted : next.counted ≡ s.counted
  pub has_line_feed : next.has_line_feed ≡ s.has_line_feed

pub gives_on : (fed : List ℕ) (rs : List Recorded) (s next : Standing) (r : Recorded) → HasGiven fed rs s → GoesOn s next r
    → HasGiven fed (rs ++ r ∷ []) next
gives_on fed rs s next r given on =
    grind (arith, text_after-append, append-nil, append_assoc, length-append, are_recorded-append, last_digest-append)

-- what stands behind what was given
pub rest_of_given : (fed : List ℕ) (rs : List Recorded) (s : Standing) → (given : HasGiven fed rs s)
    → drop s.good fed ≡ s.held ++ given.counted
rest_of_given fed rs s given = ap (drop s.good) given.front ∙ drop_at (text_after [] rs) (s.held ++ given.counted) s.good given.good

-- where none begins behind it, this is how the bytes read
pub given_reads : (fed : List ℕ) (rs : List Recorded) (s : Standing) → HasGiven fed rs s
    → ((more : List ℕ) → length more ≡ s.counted → BeginsWithNone s.last (s.held ++ more)) → Reads [] fed rs (drop s.good fed)
given_reads fed rs s given none = grind (arith, common_steps, rest_of_given)

-- ---- a line further

module _ (s next : Standing) (r : Recorded) (bytes : List ℕ) (count : ℕ) (held : s.held ≡ bytes) (first : BeginsWithLine bytes count)
    (line : take count bytes ≡ line_of s.last r) where
  text_size : length (text_of s.last r) ≡ count + 1
  text_size = grind (arith, length-take-le, length-append)

  pub goes_on : IsRecordedAfter s.last r → next.held ≡ drop (count + 1) bytes → next.last ≡ take digest_length (take count bytes)
      → next.lines ≡ s.lines + 1 → next.good ≡ s.good + (count + 1) → next.counted ≡ s.counted → next.has_line_feed ≡ s.has_line_feed
      → GoesOn s next r
  goes_on is rest last lines good counted has = grind (arith, text_at, line_digest, text_size)

-- ---- a piece further

-- the place is the same
pub record KeepsPlace (s next : Standing) : Type 0 where
  pub last : next.last ≡ s.last
  pub lines : next.lines ≡ s.lines
  pub good : next.good ≡ s.good

nil_of : (xs : List ℕ) → length xs ≡ 0 → xs ≡ []
nil_of xs none = grind (arith, common_steps)

module _ (fed piece : List ℕ) (rs : List Recorded) (s next : Standing) (given : HasGiven fed rs s) (same : KeepsPlace s next) where
  -- it was held
  pub gives_held : next.held ≡ s.held ++ piece → s.counted ≡ 0 → next.counted ≡ s.counted → next.has_line_feed ≡ s.has_line_feed
      → HasGiven (fed ++ piece) rs next
  gives_held held none counted has = grind (arith, nil_of, append-nil, append_assoc)

  -- it was only counted
  pub gives_counted : next.held ≡ s.held → next.counted ≡ s.counted + length piece
      → (IsTrue next.has_line_feed ↔ Contains (given.counted ++ piece) line_feed) → HasGiven (fed ++ piece) rs next
  gives_counted held counted found = grind (arith, append_assoc, length-append)

-- what was found in a piece is found with those before it
pub found_with : (before after : Bool) (counted piece : List ℕ) → (IsTrue before ↔ Contains counted line_feed)
    → OnTrue after ((before ≡ true) ⊎ Contains piece line_feed) → OnFalse after ((before ≡ false) × All (λ b. b ≢ line_feed) piece)
    → IsTrue after ↔ Contains (counted ++ piece) line_feed
found_with before true counted piece known some none = (
  λ is. elim some [
    | inl was ↦ Contains-append_left counted piece line_feed (known.0 was)
    | inr there ↦ Contains-append_right counted piece line_feed there
  ],
  λ there. refl,
)
found_with before false counted piece known some none = grind (arith, common_steps, false≢true)

-- ---- the end

module _ (fed : List ℕ) (rs : List Recorded) (s : Standing) (given : HasGiven fed rs s) where
  pub ends_damaged : (s.has_line_feed ≡ true) ⊎ Contains s.held line_feed → (line : ℕ) → line ≡ s.lines + 1
      → IsEnd s.lines (drop s.good fed) (Damaged line)
  ends_damaged found line e =
      let P : List ℕ → Type 0 = λ t. Contains t line_feed in
      let rest = sym (rest_of_given fed rs s given) in (
        e,
        subst P rest (elim found [
          | inl was ↦ Contains-append_right s.held given.counted line_feed (given.line_feeds.0 was)
          | inr there ↦ Contains-append_left s.held given.counted line_feed there
        ]),
      )

  pub ends_unfinished : (s.has_line_feed ≡ false)
      × All (λ b. b ≢ line_feed) s.held → (bytes : ℕ) → bytes ≡ length s.held + s.counted → bytes ≢ 0
      → IsEnd s.lines (drop s.good fed) (Unfinished bytes)
  ends_unfinished none bytes e some =
      let rest = rest_of_given fed rs s given in
      let size : length (drop s.good fed) ≡ bytes = ap length rest ∙ length-append s.held given.counted
      ∙ ap (λ n. length s.held + n) given.size ∙ sym e in
      let counted : All (λ b. b ≢ line_feed) given.counted =
      (λ k d below is. false≢true (sym none.0 ∙ given.line_feeds.1 (k, below, get_or_default given.counted k line_feed d below ∙ is))) in (
        (λ nothing. some (sym size ∙ ap length nothing)),
        size,
        All-same (λ b. b ≢ line_feed) _ _ rest (All-append (λ b. b ≢ line_feed) s.held given.counted none.1 counted),
      )

-- bytes with no line feed begin with no line, also where nothing follows them
pub none_if_free : (last held more : List ℕ) → All (λ b. b ≢ line_feed) held → length more ≡ 0 → BeginsWithNone last (held ++ more)
none_if_free last held more free none =
    let P : ℕ → Type 0 = λ b. b ≢ line_feed in
    none_in_line last (held ++ more) (All-append P held more free (All-same P more [] (nil_of more none) (All-nil P)))
