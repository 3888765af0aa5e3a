-- What was entered, one command more, and what a crash leaves of it.
use Rattle.std.proofs.Common.{◌≡◌, ℕ, List, [], ◌∷◌, ◌++◌, take, refl, sym, subst, ◌∙◌, ap}
use Rattle.std.proofs.lemmas.List.{append_assoc, append-nil}
use Rattle.tsn_device.specs.Kept.{LeavesFront, LeavesKept}
use Rattle.tsn_recorded.specs.Text.{Recorded, IsRecordedAfter, AreRecordedAfter, body_of, digest_after, last_digest, text_after, text_of}
use Rattle.tsn_recorded.specs.Reading.{BeginsWithNone, Reads, recorded_within}
use Rattle.tsn_recorded.proofs.Readings.{are_recorded-append, last_digest-append, longest_front, reads_within, recorded_within-front, same_reading, text_after-append}
use Rattle.tsn_keeping.specs.Keeping.{Keeping, HasEntered, with_entered, with_settled}

-- A front of commands that may be recorded may be recorded.
are_recorded-front : (last : List ℕ) (rs more : List Recorded) → AreRecordedAfter last (rs ++ more) → AreRecordedAfter last rs
are_recorded-front last [] more all = tt
are_recorded-front last (r ∷ rs) more all = (all.0, are_recorded-front (digest_after last (body_of r)) rs more all.1)

are_recorded-behind : (last : List ℕ) (rs more : List Recorded) → AreRecordedAfter last (rs ++ more)
    → AreRecordedAfter (last_digest last rs) more
are_recorded-behind last [] more all = all
are_recorded-behind last (r ∷ rs) more all = are_recorded-behind (digest_after last (body_of r)) rs more all.1

-- What reads behind recorded commands reads with them.
reads_behind : (rs more : List Recorded) (bytes rest : List ℕ) → AreRecordedAfter [] rs → Reads (last_digest [] rs) bytes more rest
    → Reads [] (text_after [] rs ++ bytes) (rs ++ more) rest
reads_behind rs more bytes rest all reads =
    let P : List ℕ → Type 0 = λ d. BeginsWithNone d rest in
    record {
      front = ap (λ t. text_after [] rs ++ t) reads.front
          ∙ (sym (append_assoc (text_after [] rs) (text_after (last_digest [] rs) more) rest)
          ∙ ap (λ t. t ++ rest) (sym (text_after-append [] rs more)));
      recorded = are_recorded-append [] rs more all reads.recorded;
      longest = subst P (sym (last_digest-append [] rs more)) reads.longest;
    }

module _ (had first : List ℕ) (settled others : List Recorded) (k : Keeping) (h : HasEntered had first settled others k) where
  abbrev place : List ℕ
  place = last_digest first settled

  pub one_more : (r : Recorded) → IsRecordedAfter k.last r → HasEntered had first settled (others ++ r ∷ []) (with_entered r k)
  one_more r is =
      let all = settled ++ others in
      let at_end : k.last ≡ last_digest place others = h.last ∙ last_digest-append first settled others in
      let line = text_of (last_digest place others) r in
      let joined = append_assoc settled others (r ∷ []) in
      let P : List ℕ → Type 0 = λ d. IsRecordedAfter d r in
      record {
        kept = h.kept;
        unsettled = ap (λ t. t ++ text_of k.last r) h.unsettled
            ∙ (ap (λ d. text_after place others ++ text_of d r) at_end
            ∙ (ap (λ t. text_after place others ++ t) (sym (append-nil line))
            ∙ sym (text_after-append place others (r ∷ []))));
        last = ap (λ d. digest_after d (body_of r)) h.last
            ∙ (sym (last_digest-append first all (r ∷ []))
            ∙ ap (last_digest first) joined);
        recorded = subst (AreRecordedAfter first) joined
            (are_recorded-append first all (r ∷ []) h.recorded (subst P h.last is, tt));
      }

  pub all_settled : HasEntered had first (settled ++ others) [] (with_settled k)
  all_settled =
      let end = append-nil (settled ++ others) in
      record {
        kept = ap (λ t. t ++ k.unsettled) h.kept
            ∙ (ap (λ t. (had ++ text_after first settled) ++ t) h.unsettled
            ∙ (append_assoc had (text_after first settled) (text_after place others)
            ∙ ap (λ t. had ++ t) (sym (text_after-append first settled others))));
        unsettled = refl;
        last = h.last ∙ ap (last_digest first) (sym end);
        recorded = subst (AreRecordedAfter first) (sym end) h.recorded;
      }

module _ (ahead had left rest : List ℕ) (before settled others found : List Recorded) (k : Keeping) (all : AreRecordedAfter [] before)
    (file : ahead ++ had ≡ text_after [] before) (h : HasEntered had (last_digest [] before) settled others k) where
  abbrev text : List ℕ
  text = text_after (last_digest [] before) settled

  -- The file begins with the text of what was recorded before and of what is settled.
  begins : (tail : List ℕ) → ahead ++ (k.kept ++ tail) ≡ text_after [] (before ++ settled) ++ tail
  begins tail =
      ap (λ t. ahead ++ (t ++ tail)) h.kept
      ∙ (ap (λ t. ahead ++ t) (append_assoc had text tail)
      ∙ (sym (append_assoc ahead had (text ++ tail))
      ∙ (ap (λ t. t ++ (text ++ tail)) file
      ∙ (sym (append_assoc (text_after [] before) text tail)
      ∙ ap (λ t. t ++ tail) (sym (text_after-append [] before settled))))))

  are_recorded : AreRecordedAfter [] (before ++ settled)
  are_recorded = are_recorded-append [] before settled all (are_recorded-front (last_digest [] before) settled others h.recorded)

  pub at_least : LeavesKept k.kept left → Reads [] (ahead ++ left) found rest
      → (more : List Recorded) × (found ≡ (before ++ settled) ++ more)
  at_least leaves reads =
      longest_front [] (ahead ++ left) found (before ++ settled) rest leaves.0 reads are_recorded
      (ap (λ t. ahead ++ t) leaves.1 ∙ begins leaves.0)

  -- All that was entered and is not settled, as commands that may be recorded behind the others.
  others_recorded : AreRecordedAfter (last_digest [] (before ++ settled)) others
  others_recorded =
      let place = last_digest-append [] before settled in
      let P : List ℕ → Type 0 = λ d. AreRecordedAfter d others in
      subst P (sym place) (are_recorded-behind (last_digest [] before) settled others h.recorded)

  -- What stands behind the settled text.
  behind : k.unsettled ≡ text_after (last_digest [] (before ++ settled)) others
  behind = h.unsettled ∙ ap (λ d. text_after d others) (sym (last_digest-append [] before settled))

  pub no_more : LeavesFront k.kept k.unsettled left → Reads [] (ahead ++ left) found rest
      → (some more : List Recorded) × (found ≡ (before ++ settled) ++ some) × (others ≡ some ++ more)
  no_more leaves reads =
      let n = leaves.0 in
      let all = before ++ settled in
      let place = last_digest [] all in
      let cut = reads_within place others n others_recorded in
      let some = recorded_within place n others in
      let whole = reads_behind all some (take n (text_after place others)) cut.0 are_recorded cut.1 in
      let is : ahead ++ left ≡ text_after [] all ++ take n (text_after place others) =
      ap (λ t. ahead ++ t) leaves.1
      ∙ (begins (take n k.unsettled)
      ∙ ap (λ t. text_after [] all ++ take n t) behind) in
      let P : List ℕ → Type 0 = λ bytes. Reads [] bytes (all ++ some) cut.0 in
      let more = recorded_within-front place others n in (
        some,
        more.0,
        (same_reading [] (ahead ++ left) found (all ++ some) rest cut.0 reads (subst P (sym is) whole)).0,
        more.1,
      )
