use Rattle.std.proofs.Common.{◌≡◌, ◌∙◌, true, ap, map, string_bytes, subst}
use Rattle.std.proofs.lemmas.Result.{IfOk-weaker}
use Rattle.clap.specs.Kinds.{FailsBy}
use Rattle.clap.specs.Faults.{fault_of, is_simple_and_free}
use Rattle.clap.specs.Simple.{is_simple, subcommand_of, subcommand_rows_of}
use Rattle.tsn_words.specs.Asking.{program}
use Rattle.tsn_words.proofs.Worked.{both_are, script_parsed, simple}
use Rattle.tsn_words.proofs.arguments.parsed.Goals as goal

pub returns-clause-kinds : goal.returns-clause-kinds
returns-clause-kinds c =
    let fails = c.try_get_matches_from.ensures.kinds (ap is_simple_and_free c.in_ok-command.ensures ∙ simple) in
    subst (λ a. FailsBy (fault_of a (map string_bytes c.args.words.now)) c.try_get_matches_from.result) c.in_ok-command.ensures fails

pub returns-clause-given : goal.returns-clause-given
returns-clause-given c =
    let plain : is_simple program ≡ true = (both_are (is_simple program) _ simple).0 in
    let words = map string_bytes c.args.words.now in
    IfOk-weaker c.try_get_matches_from.result _ _ (λ m h. subst (λ a. subcommand_rows_of m ≡ subcommand_of a words) c.in_ok-command.ensures
    (h (ap is_simple c.in_ok-command.ensures ∙ plain)).1) c.try_get_matches_from.ensures.matches

pub returns-clause-script : goal.returns-clause-script
returns-clause-script c = script_parsed c.try_get_matches_from.result (map string_bytes c.args.words.now) (returns-clause-kinds c)
