-- Bytes read in one way, and the text of recorded commands reads back.
use Rattle.std.proofs.Common.{◌≡◌, ◌≢◌, ℕ, zero, suc, ◌-◌, ◌<◌, ◌≤◌, List, [], ◌∷◌, ◌++◌, length, take, drop, refl, sym, subst, ◌∙◌, ap, arith, inl, inr, Bool, true, false, rules}
use Rattle.std.proofs.lemmas.Grind.{common_steps}
use Rattle.std.specs.Prelude.{All, if◌then◌else◌, nat_le}
use Rattle.std.proofs.lemmas.Bool.{cases_lt, le-leb, lt-leb}
use Rattle.std.proofs.lemmas.List.{append_assoc, append_cancel_right, append-nil, length-append, take-append-drop, take-append-le, take_at}
use Rattle.std.proofs.lemmas.List.Elements.{All-append, All-cons, All-nil, All-same}
use Rattle.tsn_recorded.specs.Text.{Recorded, IsRecorded, IsRecordedAfter, AreRecordedAfter, body_of, digest_after, digest_length, last_digest, line_feed, line_of, space, text_after, text_of}
use Rattle.tsn_recorded.specs.Reading.{BeginsWithNone, IsEnd, Reads, recorded_within}
use Rattle.tsn_recorded.specs.declared.end.End.{End}
use Rattle.tsn_recorded.specs.declared.end.End.TheVariants.{Damaged}
use Rattle.tsn_recorded.proofs.Digests.{digest_after-no_line_feed, length-digest_after}
use Rattle.tsn_recorded.proofs.Splitting.{cons_tail, has_one, same_fronts, same_parts}

pub text_after-append : (last : List ℕ) (rs more : List Recorded)
    → text_after last (rs ++ more) ≡ text_after last rs ++ text_after (last_digest last rs) more
text_after-append last [] more = refl
text_after-append last (r ∷ rs) more = grind (arith, append_assoc, (text_after-append (digest_after last (body_of r)) rs more))

pub last_digest-append : (last : List ℕ) (rs more : List Recorded) → last_digest last (rs ++ more) ≡ last_digest (last_digest last rs) more
last_digest-append last [] more = refl
last_digest-append last (r ∷ rs) more = last_digest-append (digest_after last (body_of r)) rs more

pub are_recorded-append : (last : List ℕ) (rs more : List Recorded) → AreRecordedAfter last rs → AreRecordedAfter (last_digest last rs) more
    → AreRecordedAfter last (rs ++ more)
are_recorded-append last [] more one other = other
are_recorded-append last (r ∷ rs) more one other = (one.0, are_recorded-append (digest_after last (body_of r)) rs more one.1 other)

-- equal fields make one recorded command
same_fields : (s t c d : List ℕ) → s ≡ t → c ≡ d → let one : Recorded =
    record { stamp = s; command = c } in let two : Recorded = record { stamp = t; command = d } in one ≡ two
same_fields s t c d e f = cc

-- a recorded command's text is its line, and then the line feed
pub text_of-line : (last : List ℕ) (r : Recorded) (more : List ℕ) → text_of last r ++ more ≡ line_of last r ++ line_feed ∷ more
text_of-line last r more = append_assoc (line_of last r) (line_feed ∷ []) more

-- a line holds no line feed
pub line_of-line : (last : List ℕ) (r : Recorded) → IsRecorded r → All (λ b. b ≢ line_feed) (line_of last r)
line_of-line last r is =
    let P : ℕ → Type 0 = λ b. b ≢ line_feed in
    let gap : space ≢ line_feed = λ e. cc in
    All-append P (digest_after last (body_of r)) (space ∷ body_of r) (digest_after-no_line_feed last (body_of r))
    (All-cons P space (body_of r) gap
    (All-append P r.stamp (space ∷ r.command) is.stamp_line (All-cons P space r.command gap is.command_line)))

-- the text behind the digest's space is that of one recorded command
pub same_body : (r q : Recorded) → IsRecorded r → IsRecorded q → body_of r ≡ body_of q → r ≡ q
same_body r q isr isq e = grind (arith, same_parts, same_fields)

-- a line is that of one recorded commanded command
pub same_record : (last : List ℕ) (r q : Recorded) → IsRecorded r → IsRecorded q → line_of last r ≡ line_of last q → r ≡ q
same_record last r q isr isq e =
    let parts = same_fronts (digest_after last (body_of r)) (space ∷ body_of r) (digest_after last (body_of q)) (space ∷ body_of q)
    (length-digest_after last (body_of r) ∙ sym (length-digest_after last (body_of q))) e in
    same_body r q isr isq (cons_tail _ _ _ _ parts)

-- bytes begin with one line at most
pub same_first : (last : List ℕ) (r q : Recorded) (more others : List ℕ) → IsRecorded r → IsRecorded q
    → text_of last r ++ more ≡ text_of last q ++ others → (r ≡ q) × (more ≡ others)
same_first last r q more others isr isq e = grind (arith, same_parts, line_of-line, text_of-line, same_record)

-- a reading behind the first line
reads_tail : (last bytes : List ℕ) (r : Recorded) (rs : List Recorded) (rest : List ℕ) → Reads last bytes (r ∷ rs) rest
    → Reads (digest_after last (body_of r)) (text_after (digest_after last (body_of r)) rs ++ rest) rs rest
reads_tail last bytes r rs rest reads = grind arith

-- the bytes of a reading begin with its first line
reads_first : (last bytes : List ℕ) (r : Recorded) (rs : List Recorded) (rest : List ℕ) → Reads last bytes (r ∷ rs) rest
    → bytes ≡ text_of last r ++ (text_after (digest_after last (body_of r)) rs ++ rest)
reads_first last bytes r rs rest reads = reads.front ∙ append_assoc (text_of last r) (text_after (digest_after last (body_of r)) rs) rest

pub same_reading : (last bytes : List ℕ) (rs others : List Recorded) (rest other : List ℕ) → Reads last bytes rs rest
    → Reads last bytes others other → (rs ≡ others) × (rest ≡ other)
same_reading last bytes [] [] rest other one two = (refl, sym one.front ∙ two.front)
same_reading last bytes [] (q ∷ others) rest other one two = grind (arith, common_steps, reads_first)
same_reading last bytes (r ∷ rs) [] rest other one two = grind (arith, common_steps, reads_first)
same_reading last bytes (r ∷ rs) (q ∷ others) rest other one two =
    let first = same_first last r q _ _ one.recorded.0.recorded two.recorded.0.recorded
    (sym (reads_first last bytes r rs rest one) ∙ reads_first last bytes q others other two) in
    let P : Recorded → Type 0 = λ x. Reads (digest_after last (body_of x)) (text_after (digest_after last (body_of r)) rs ++ rest) others
    other in
    let behind : P q = record {
      front = first.1;
      recorded = two.recorded.1;
      longest = two.longest;
    } in
    let later = same_reading (digest_after last (body_of r)) (text_after (digest_after last (body_of r)) rs ++ rest) rs others rest other
    (reads_tail last bytes r rs rest one) (subst P (sym first.0) behind) in
    (ap (λ x. x ∷ rs) first.0 ∙ ap (λ xs. q ∷ xs) later.0, later.1)

-- bytes with no line feed begin with no line that verifies
pub none_in_line : (last bytes : List ℕ) → All (λ b. b ≢ line_feed) bytes → BeginsWithNone last bytes
none_in_line last bytes free r more is e =
    has_one line_feed (line_of last r) more (All-same (λ b. b ≢ line_feed) _ bytes (sym (e ∙ text_of-line last r more)) free)

-- a text cut after n bytes, where the first line lies whole in it and where it does not
take_beyond : (n : ℕ) (xs ys : List ℕ) → length xs ≤ n → take n (xs ++ ys) ≡ xs ++ take (n - length xs) ys
take_beyond n [] ys h = let e : n - 0 ≡ n = omega arith in rw e refl
take_beyond zero (x ∷ xs) ys h = absurd (omega arith)
take_beyond (suc n) (x ∷ xs) ys h =
    let e : suc n - length (x ∷ xs) ≡ n - length xs = omega arith in
    let shorter : length xs ≤ n = omega arith in
    rw e (ap (λ t. x ∷ t) (take_beyond n xs ys shorter))

-- a front of a line's text that is not all of it holds no line feed
front_free : (n : ℕ) (last : List ℕ) (r : Recorded) (more : List ℕ) → IsRecorded r → n < length (text_of last r)
    → All (λ b. b ≢ line_feed) (take n (text_of last r ++ more))
front_free n last r more is short = grind (arith, common_steps, length-append, text_of-line, take-append-le, line_of-line)

-- a reading behind one more line in front
reads_more : (last bytes : List ℕ) (r : Recorded) (rs : List Recorded) (rest : List ℕ) → IsRecordedAfter last r
    → Reads (digest_after last (body_of r)) bytes rs rest
    → Reads last (text_of last r ++ bytes) (r ∷ rs) rest
reads_more last bytes r rs rest is reads = grind (arith, append_assoc)

take-nil : (n : ℕ) → take n (text_after [] []) ≡ []
take-nil n = grind arith

-- What a cut leaves reads as these recorded commands, with no line feed behind them.
abbrev pub CutReads : List ℕ → List ℕ → List Recorded → Type 0
CutReads last bytes rs = (rest : List ℕ) × Reads last bytes rs rest × All (λ b. b ≢ line_feed) rest

pub reads_within : (last : List ℕ) (rs : List Recorded) (n : ℕ) → AreRecordedAfter last rs
    → CutReads last (take n (text_after last rs)) (recorded_within last n rs)
reads_within last [] n all =
    let nothing = All-nil (λ b. b ≢ line_feed) in
    ([], record { front = take-nil n; recorded = tt; longest = none_in_line last [] nothing }, nothing)
reads_within last (r ∷ rs) n all =
    let is = all.0 in
    let next = digest_after last (body_of r) in
    let size = length (text_of last r) in
    let P : List Recorded → Type 0 = λ xs. CutReads last (take n (text_of last r ++ text_after next rs)) xs in
    elim (cases_lt n size) [
      | inl short ↦
          let free = front_free n last r (text_after next rs) is.recorded short in
          let none : recorded_within last n (r ∷ rs) ≡ [] = ap (λ b. if b then r ∷ recorded_within next (n - size) rs else [])
          (lt-leb size n short) in
          subst P (sym none) (_, record { front = refl; recorded = tt; longest = none_in_line last _ free }, free)
      | inr long ↦
          let later = reads_within next rs (n - size) all.1 in
          let some : recorded_within last n (r ∷ rs) ≡ r
          ∷ recorded_within next (n - size) rs =
          ap (λ b. if b then r ∷ recorded_within next (n - size) rs else []) (le-leb size n long) in
          let Q : List ℕ → Type 0 = λ xs. CutReads last xs (r ∷ recorded_within next (n - size) rs) in
          subst P (sym some) (subst Q (sym (take_beyond n (text_of last r) (text_after next rs) long))
          (later.0, reads_more last _ r _ later.0 is later.1, later.2))
    ]

-- a line begins with its digest
pub take-text_of : (last : List ℕ) (r : Recorded) (more : List ℕ)
    → take digest_length (text_of last r ++ more) ≡ digest_after last (body_of r)
take-text_of last r more = search (rules, text_of-line, append_assoc, take_at, length-digest_after)

pub text_of-digest : (last : List ℕ) (r : Recorded) → take digest_length (text_of last r) ≡ digest_after last (body_of r)
text_of-digest last r = ap (take digest_length) (sym (append-nil (text_of last r))) ∙ take-text_of last r []

-- bytes with no line feed, behind such, leave a reading as it is
pub reads_torn : (last bytes : List ℕ) (rs : List Recorded) (rest tail : List ℕ) → Reads last bytes rs rest → All (λ b. b ≢ line_feed) rest
    → All (λ b. b ≢ line_feed) tail
    → Reads last (bytes ++ tail) rs (rest ++ tail)
reads_torn last bytes rs rest tail reads free torn = record {
  front = ap (λ t. t ++ tail) reads.front ∙ append_assoc (text_after last rs) rest tail;
  recorded = reads.recorded;
  longest = none_in_line (last_digest last rs) (rest ++ tail) (All-append (λ b. b ≢ line_feed) rest tail free torn);
}

-- every reading of a cut text is that of the lines that lie whole in it
pub reading_of_cut : (last : List ℕ) (rs : List Recorded) (n : ℕ) (others : List Recorded) (rest : List ℕ) → AreRecordedAfter last rs
    → Reads last (take n (text_after last rs)) others rest
    → (others ≡ recorded_within last n rs) × All (λ b. b ≢ line_feed) rest
reading_of_cut last rs n others rest all reads =
    let within = reads_within last rs n all in
    let same = same_reading last _ others (recorded_within last n rs) rest within.0 reads within.1 in
    (same.0, All-same (λ b. b ≢ line_feed) rest within.0 same.1 within.2)

-- the lines that lie whole in a cut text are a front of all
pub recorded_within-front : (last : List ℕ) (rs : List Recorded) (n : ℕ)
    → (others : List Recorded) × (rs ≡ recorded_within last n rs ++ others)
recorded_within-front last [] n = ([], refl)
recorded_within-front last (r ∷ rs) n =
    let next = digest_after last (body_of r) in
    let size = length (text_of last r) in
    let P : Bool → Type 0 = λ b. (others : List Recorded)
    × (r ∷ rs ≡ (if b then r ∷ recorded_within next (n - size) rs else []) ++ others) in
    let later = recorded_within-front next rs (n - size) in
    elim (nat_le size n) as P [ true ↦ (later.0, ap (λ t. r ∷ t) later.1) | false ↦ (r ∷ rs, refl) ]

-- bytes with no line feed do not end in a damaged line
pub not_damaged : (count : ℕ) (rest : List ℕ) (line : ℕ) → All (λ b. b ≢ line_feed) rest → IsEnd count rest (Damaged line) → ⊥
not_damaged count rest line free is = free is.1.0 line_feed is.1.1 is.1.2

-- bytes have one end
pub same_end : (count : ℕ) (rest : List ℕ) (one other : End) → IsEnd count rest one → IsEnd count rest other → one ≡ other
same_end count rest one other e f = grind arith

-- bytes that were cut off behind their lines go on with further ones
pub continues : (bytes : List ℕ) (rs more : List Recorded) (n : ℕ) → Reads [] bytes rs (drop n bytes)
    → AreRecordedAfter (last_digest [] rs) more
    → Reads [] (take n bytes ++ text_after (last_digest [] rs) more) (rs ++ more) []
continues bytes rs more n reads all =
    grind (arith, common_steps, append_cancel_right, take-append-drop, text_after-append, append-nil, are_recorded-append, none_in_line)

-- whatever lines verify at the front are a front of those read
pub longest_front : (last bytes : List ℕ) (rs others : List Recorded) (rest other : List ℕ) → Reads last bytes rs rest
    → AreRecordedAfter last others → bytes ≡ text_after last others ++ other
    → (more : List Recorded) × (rs ≡ others ++ more)
longest_front last bytes rs [] rest other reads all e = (rs, refl)
longest_front last bytes [] (q ∷ others) rest other reads all e = grind (arith, append_assoc)
longest_front last bytes (r ∷ rs) (q ∷ others) rest other reads all e =
    let first = same_first last r q _ _ reads.recorded.0.recorded all.0.recorded
    (sym (reads_first last bytes r rs rest reads) ∙ e ∙ append_assoc (text_of last q) (text_after (digest_after last (body_of q)) others)
    other) in
    let stands : text_after (digest_after last (body_of r)) rs ++ rest ≡ text_after (digest_after last (body_of r)) others ++ other =
    first.1 ∙ ap (λ x. text_after (digest_after last (body_of x)) others ++ other) (sym first.0) in
    let P : Recorded → Type 0 = λ x. AreRecordedAfter (digest_after last (body_of x)) others in
    let behind : P r = subst P (sym first.0) all.1 in
    let later = longest_front (digest_after last (body_of r)) _ rs others rest other (reads_tail last bytes r rs rest reads) behind
    stands in
    (later.0, ap (λ x. x ∷ rs) first.0 ∙ ap (λ xs. q ∷ xs) later.1)
