use Rattle.std.proofs.Common.{◌≡◌, ◌++◌, take, drop, decimal, Ok, refl, sym, ap, ◌∙◌, subst, arith}
use Rattle.std.proofs.lemmas.Bool.Decides.{nat_tests}
use Rattle.std.proofs.lemmas.List.{take-append-drop}
use Rattle.std.specs.Char.{is_ascii_digit}
use Rattle.std.specs.Str.{IsCharBoundary}
use Rattle.toml_parser.proofs.LexicalLemmas.{IsCharBoundary-ascii_run}
use Rattle.tsn_setup.proofs.Decimals.{spelled, number_alone, was_ok}
use Rattle.tsn_setup.proofs.given.digits_alone.Goals as goal

pub split_at-requires : goal.split_at-requires
split_at-requires c = subst (IsCharBoundary c.args.text.now) (sym c.digits-count.ensures.len)
    (IsCharBoundary-ascii_run is_ascii_digit c.args.text.now c.utf8.text (λ b e. grind (arith, nat_tests)))

pub returns-clause-value : goal.returns-clause-value
returns-clause-value c m =
    let text = c.args.text.now in
    let count = c.digits-count.result in
    let n = c.in_ok-number.number in
    let parses = rw c.split_at.ensures.front at c.parse.ensures.value.0 in
    let ok : c.parse.result ≡ Ok n = was_ok c.parse.result n (sym c.in_ok-number.ensures.value) in
    let lead = c.if-not-is_one_number.ensures in
    let word : decimal n ≡ take count text = spelled text count n c.parse.result c.digits-count.ensures.len (lead.some refl)
    (lead.lead refl) parses ok in
    let rest = c.split_at.ensures.back in
    let whole : text ≡ decimal n ++ c.split_at.result.1.now = sym (take-append-drop count text) ∙ ap (λ w. w ++ drop count text) (sym word)
    ∙ ap (λ r. decimal n ++ r) (sym rest) in
    number_alone n text c.split_at.result.1.now (omega arith) (c.goes_on.ensures c.if-goes_on.false) whole m
