use Rattle.std.proofs.Common.{Some, arith, ap, codes, option_map, string_bytes, sym, ◌∙◌, ◌≤◌}
use Rattle.clap.specs.Words.{found_of, rows_of}
use Rattle.tsn_words.specs.Asking.{Given, looks}
use Rattle.tsn_words.proofs.Worked.{begin_alone, given_in_rows, none_given}
use Rattle.tsn_words.proofs.look.look_of.Goals as goal

pub returns-in-Some-2 : goal.returns-in-Some-2
returns-in-Some-2 c =
    let given : Given = Some (codes "journal", rows_of (found_of c.args.given.now)) in
    let is = given_in_rows (codes "journal") (found_of c.args.given.now) (codes "begin") _
    (c.in_ok-new.ensures ∙ ap (option_map string_bytes) c.in-Some-2.is) in
    let few : looks given ≤ 1 = omega (arith, c.count_of.ensures, c.if-count_of-gt1.false) in
    (is, begin_alone given _ is few)

pub returns : goal.returns
returns c =
    let given : Given = Some (codes "journal", rows_of (found_of c.args.given.now)) in
    let begin = given_in_rows (codes "journal") (found_of c.args.given.now) (codes "begin") _
    (c.in_ok-new.ensures ∙ ap (option_map string_bytes) c.in_default-2.is) in
    none_given given c.in_default.ensures.none c.in_default-number_if_given.ensures.none begin (sym c.if-is_flagged.ensures.is)
    (sym c.if-is_flagged-2.ensures.is)
