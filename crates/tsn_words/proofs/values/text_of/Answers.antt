use Rattle.std.proofs.Common.{◌∙◌, sym, ap, Some}
use Rattle.std.proofs.lemmas.Result.{IfOk-weaker}
use Rattle.clap.proofs.WalkLemmas.{first_value-rows}
use Rattle.clap.specs.Words.{found_of}
use Rattle.tsn_words.proofs.Worked.{same_text, some_text}
use Rattle.tsn_words.proofs.values.text_of.Goals as goal

pub unwrap-text-requires : goal.unwrap-text-requires
unwrap-text-requires c = some_text c.get_str.result c.requires.0
    (c.get_str.ensures ∙ first_value-rows (found_of c.args.given.now) c.args.name.now ∙ c.requires.1)

pub returns : goal.returns
returns c =
    let same = same_text c.get_str.result c.unwrap-text.result c.requires.0 c.unwrap-text.ensures
    (c.get_str.ensures ∙ first_value-rows (found_of c.args.given.now) c.args.name.now ∙ c.requires.1) in
    IfOk-weaker c.from_str.result _ _ (λ text h. c.requires.1 ∙ ap Some (sym (h ∙ same))) c.from_str.ensures.ok
