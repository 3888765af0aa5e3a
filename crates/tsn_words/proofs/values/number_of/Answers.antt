use Rattle.std.proofs.Common.{◌∙◌, sym, ap, subst}
use Rattle.clap.proofs.WalkLemmas.{first_value-rows}
use Rattle.clap.specs.Words.{found_of}
use Rattle.tsn_words.specs.Asking.{IsNumber, number_of}
use Rattle.tsn_words.proofs.Worked.{is_read, read_number, same_text, some_text}
use Rattle.tsn_words.proofs.values.number_of.Goals as goal

pub unwrap-text-requires : goal.unwrap-text-requires
unwrap-text-requires c = some_text c.get_str.result c.requires.0
    (c.get_str.ensures ∙ first_value-rows (found_of c.args.given.now) c.args.name.now ∙ c.requires.1)

pub unwrap-requires : goal.unwrap-requires
unwrap-requires c =
    let same = same_text c.get_str.result c.unwrap-text.result c.requires.0 c.unwrap-text.ensures
    (c.get_str.ensures ∙ first_value-rows (found_of c.args.given.now) c.args.name.now ∙ c.requires.1) in
    is_read c.unwrap-text.result.now c.parse.result c.parse.ensures.value.0 (subst IsNumber (sym same) c.requires.2)

pub returns : goal.returns
returns c text given =
    let same = same_text c.get_str.result c.unwrap-text.result text c.unwrap-text.ensures
    (c.get_str.ensures ∙ first_value-rows (found_of c.args.given.now) c.args.name.now ∙ given) in
    read_number c.unwrap-text.result.now c.parse.result c.unwrap.result c.parse.ensures.value.0 c.unwrap.ensures ∙ ap number_of same
