use Rattle.std.proofs.Common.{◌≡◌, ◌≢◌, ℕ, ◌+◌, ◌-◌, List, ◌++◌, length, take, refl, sym, subst, ◌∙◌, ap, arith}
use Rattle.std.specs.Prelude.{All}
use Rattle.std.proofs.lemmas.Bool.{false≢true}
use Rattle.std.proofs.lemmas.List.{length-drop}
use Rattle.tsn_recorded.specs.Text.{Recorded, IsRecordedAfter, line_feed, line_of}
use Rattle.tsn_recorded.specs.Reading.{BeginsWithLine, BeginsWithNone, recorded_in}
use Rattle.tsn_recorded.specs.Reader.{HasGiven, Standing}
use Rattle.tsn_recorded.proofs.Finding.{none_at}
use Rattle.tsn_recorded.proofs.Giving.{given_reads, gives_on, goes_on, none_if_free}
use Rattle.tsn_recorded.proofs.reader.Reader.advance.Goals as goal

pub returns-in-None-clause-reads : goal.returns-in-None-clause-reads
returns-in-None-clause-reads c fed rs given =
    let P : Standing → Type 0 = λ s. HasGiven fed rs s in
    let Q : List ℕ → Type 0 = λ t. All (λ b. b ≢ line_feed) t in
    let free = subst Q (c.line_len.ensures.stays ∙ c.pass.ensures) c.in-None.ensures.none in
    given_reads fed rs _ (subst P (sym c.self.view_is) given)
    (λ more size. none_if_free _ _ more free (size ∙ c.self.invariant.all c.if-self.false))

-- where the first line, seen in the bytes at hand, is that of none, none begins there, whatever follows
none_behind : (last bytes seen : List ℕ) (count : ℕ) → BeginsWithLine bytes count → seen ≡ bytes
    → ((r : Recorded) → IsRecordedAfter last r → take count seen ≢ line_of last r) → (more : List ℕ) → BeginsWithNone last (bytes ++ more)
none_behind last bytes seen count first same none = grind (arith, none_at)

pub invariant_of-self-in-None-stamp_of_line : goal.invariant_of-self-in-None-stamp_of_line
invariant_of-self-in-None-stamp_of_line c =
    let at_hand = c.self.invariant.at_hand in
    let size = c.self.invariant.size in
    let same = ap length (c.line_len.ensures.stays ∙ c.pass.ensures) in
    let rest = length-drop c.self.inside.given c.self.inside.held in
    record {
      at_hand = omega arith;
      parts = λ some. absurd (omega (arith, some));
      none = λ is. none_behind c.self.inside.chain c.line_len.new.self c.bytes-2.result.now c.in-Some.count c.in-Some.ensures.line
          c.bytes-2.ensures c.in-None-stamp_of_line.ensures.none;
      all = λ is. absurd (false≢true (sym is));
      size = omega (arith, at_hand, size, same, rest);
      count = c.self.invariant.count;
    }

pub returns-in-None-stamp_of_line-clause-reads : goal.returns-in-None-stamp_of_line-clause-reads
returns-in-None-stamp_of_line-clause-reads c fed rs given =
    let chain = c.self.inside.chain in
    let P : Standing → Type 0 = λ s. HasGiven fed rs s in
    let Q : List ℕ → Type 0 = λ t. (more : List ℕ) → BeginsWithNone chain (t ++ more) in
    let none = subst Q (c.line_len.ensures.stays ∙ c.pass.ensures)
    (none_behind c.self.inside.chain c.line_len.new.self c.bytes-2.result.now c.in-Some.count c.in-Some.ensures.line c.bytes-2.ensures
    c.in-None-stamp_of_line.ensures.none) in
    given_reads fed rs _ (subst P (sym c.self.view_is) given) (λ more size. none more)

pub returns-clause-given : goal.returns-clause-given
returns-clause-given c fed rs given =
    let chain = c.self.inside.chain in
    let bytes = c.line_len.new.self in
    let count = c.in-Some.count in
    let stamp = c.in-Some-stamp_of_line.stamp in
    let line = take count c.bytes-2.result.now in
    let width : count + 1 - 1 ≡ count = omega arith in
    let here : line ≡ take count bytes = ap (take count) c.bytes-2.ensures in
    let latest : take count bytes ≡ take (count + 1 - 1) bytes = ap (λ n. take n bytes) (sym width) in
    let R : List ℕ → Type 0 = λ l. IsRecordedAfter chain (recorded_in l stamp) in
    let L : List ℕ → Type 0 = λ l. l ≡ line_of chain (recorded_in l stamp) in
    let P : Standing → Type 0 = λ s. HasGiven fed rs s in
    let held = sym (c.line_len.ensures.stays ∙ c.pass.ensures) in
    gives_on fed rs _ _ _ (subst P (sym c.self.view_is) given)
    (goes_on _ _ (recorded_in (take (count + 1 - 1) bytes) stamp) bytes count held c.in-Some.ensures.line
    (latest ∙ subst L (here ∙ latest) c.in-Some-stamp_of_line.ensures.line)
    (subst R (here ∙ latest) c.in-Some-stamp_of_line.ensures.recorded)
    refl (c.go_behind.ensures ∙ ap (take 32) here) refl refl refl refl)
