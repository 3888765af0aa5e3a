use Rattle.std.proofs.Common.{map, string_bytes, subst, sym}
use Rattle.std.proofs.lemmas.Result.{IfOk-weaker}
use Rattle.tsn_words.specs.Asking.{IsComplete, IsWork}
use Rattle.tsn_words.proofs.Given.{complete}
use Rattle.tsn_words.proofs.Worked.{mapped, script_works, some_same}
use Rattle.tsn_words.proofs.arguments.read_words.Goals as goal

-- words without a fault name a subcommand, and give what it wants
pub asked_of-requires : goal.asked_of-requires
asked_of-requires c = subst IsComplete (sym c.in-Ok.ensures.given) (complete (map string_bytes c.in-Some.words.now) c.in-Ok.ensures.kinds)

-- `script` alone is no look at a journal
pub returns-in-Ok-clause-script : goal.returns-in-Ok-clause-script
returns-in-Ok-clause-script c name is =
    let same = some_same _ c.args.words c.in-Some.words _ c.in-Some.is is in
    mapped c.asked_of.result c.map_err.result IsWork _ c.map_err.ensures.cases c.map_err.ensures.variant
    (IfOk-weaker c.asked_of.result _ _
    (λ asked h. script_works name (map string_bytes c.in-Some.words.now) _ asked c.in-Ok.ensures.given same h) c.asked_of.ensures.asked)
