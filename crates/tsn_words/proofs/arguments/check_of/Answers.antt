use Rattle.std.proofs.Common.{ap, option_map, string_bytes, ◌∙◌}
use Rattle.clap.specs.Words.{found_of}
use Rattle.tsn_words.proofs.Worked.{both_refused, check_in_rows, neither_refused}
use Rattle.tsn_words.proofs.arguments.check_of.Goals as goal

pub returns-in-Some-false-clause-asked : goal.returns-in-Some-false-clause-asked
returns-in-Some-false-clause-asked c =
    check_in_rows (found_of c.args.given.now) _ _ (c.in_ok-file.ensures ∙ ap (option_map string_bytes) c.in-Some-false.is-0)
    c.in-Some-false.ensures.given

pub returns-in-None-true-clause-asked : goal.returns-in-None-true-clause-asked
returns-in-None-true-clause-asked c =
    check_in_rows (found_of c.args.given.now) _ _ (c.in_ok-file.ensures ∙ ap (option_map string_bytes) c.in-None-true.is-0)
    c.in-None-true.ensures.given

pub returns-in-Some-true-clause-asked : goal.returns-in-Some-true-clause-asked
returns-in-Some-true-clause-asked c =
    both_refused (found_of c.args.given.now) _ _
    (check_in_rows (found_of c.args.given.now) _ _ (c.in_ok-file.ensures ∙ ap (option_map string_bytes) c.in-Some-true.is-0)
    c.in-Some-true.ensures.given) c.refused_for.ensures

pub returns-in-None-false-clause-asked : goal.returns-in-None-false-clause-asked
returns-in-None-false-clause-asked c =
    neither_refused (found_of c.args.given.now) _
    (check_in_rows (found_of c.args.given.now) _ _ (c.in_ok-file.ensures ∙ ap (option_map string_bytes) c.in-None-false.is-0)
    c.in-None-false.ensures.given) c.refused_for-in-None-false.ensures
