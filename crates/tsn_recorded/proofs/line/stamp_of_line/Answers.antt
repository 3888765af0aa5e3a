use Rattle.std.proofs.Common.{◌≡◌, ◌-◌, length, take, drop, sym, ◌∙◌, ap, arith}
use Rattle.std.proofs.lemmas.Bool.{false≢true}
use Rattle.std.proofs.lemmas.List.{length-take-le, take_rest}
use Rattle.tsn_recorded.specs.Text.{digest_after, line_of, space}
use Rattle.tsn_recorded.specs.Reading.{recorded_in}
use Rattle.tsn_recorded.proofs.Lines.{found, is_line, is_recorded, missing, not_joined, not_one_word, not_short, own_digest}
use Rattle.tsn_recorded.proofs.line.stamp_of_line.Goals as goal

pub returns-then-line-le-DIGITS-clause-none : goal.returns-then-line-le-DIGITS-clause-none
returns-then-line-le-DIGITS-clause-none c r is e = not_short c.args.chain.now c.args.line.now r e c.if-line-le-DIGITS.true

pub slice_bounds-own-end : goal.slice_bounds-own-end
slice_bounds-own-end c = sym (length-take-le 32 c.args.line.now (omega arith))

pub returns-then-line-ne32-clause-none : goal.returns-then-line-ne32-clause-none
returns-then-line-ne32-clause-none c r is e = not_joined c.args.chain.now c.args.line.now r e c.if-line-ne32.true

pub returns-in-None-clause-none : goal.returns-in-None-clause-none
returns-in-None-clause-none c r is e =
    let line = c.args.line.now in
    not_one_word c.args.chain.now line r e (missing space (drop 33 line) _ (take_rest line 33) _ c.memchr.ensures c.in-None.is)

pub returns-then-not-is_same-clause-none : goal.returns-then-not-is_same-clause-none
returns-then-not-is_same-clause-none c r is e =
    let line = c.args.line.now in
    let chain = c.args.chain.now in
    let own = own_digest chain line r e in
    let body = take (length line - 33) (drop 33 line) in
    let same = c.digest_of_body-digest.ensures ∙ ap (λ d. digest_after d body) c.last.ensures ∙ ap (digest_after chain) (take_rest line 33)
    ∙ own in
    false≢true (sym c.if-not-is_same.true ∙ c.is_same.ensures.1 same)

-- it is the line of the record that it says
verified : (c : goal.Else-not-is_same) → c.args.line.now ≡ line_of c.args.chain.now (recorded_in c.args.line.now c.in-Some.stamp)
verified c =
    let chain = c.args.chain.now in
    let line = c.args.line.now in
    let first = found space (drop 33 line) _ (take_rest line 33) _ c.memchr.ensures c.in-Some.stamp c.in-Some.is in
    let body = take (length line - 33) (drop 33 line) in
    let own : digest_after chain (drop 33 line) ≡ take 32 line =
    sym (c.digest_of_body-digest.ensures ∙ ap (λ d. digest_after d body) c.last.ensures ∙ ap (digest_after chain) (take_rest line 33))
    ∙ c.is_same.ensures.0 c.if-not-is_same.false in
    is_line chain line c.in-Some.stamp c.if-line-le-DIGITS.false c.if-line-ne32.false first.inside first.here own

pub returns-clause-line : goal.returns-clause-line
returns-clause-line c = verified c

pub returns-clause-recorded : goal.returns-clause-recorded
returns-clause-recorded c =
    let line = c.args.line.now in
    let first = found space (drop 33 line) _ (take_rest line 33) _ c.memchr.ensures c.in-Some.stamp c.in-Some.is in
    let same = ap length (verified c) in
    let short = c.if-line-longest.false in
    let longest = c.longest.ensures in
    record {
      recorded = is_recorded c.args.chain.now line c.in-Some.stamp c.requires first.before;
      within = omega (arith, same, short, longest);
    }
