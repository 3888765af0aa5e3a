use Rattle.std.proofs.Common.{◌∙◌, sym}
use Rattle.clap.proofs.WalkLemmas.{first_value-rows}
use Rattle.clap.specs.Words.{found_of}
use Rattle.tsn_words.proofs.values.number_if_given.Goals as goal

pub number_of-requires : goal.number_of-requires
number_of-requires c =
    let given = sym (first_value-rows (found_of c.args.given.now) c.args.name.now) ∙ sym c.in-Some.ensures in
    (c.in-Some.field-0.now, given, c.requires c.in-Some.field-0.now given)

pub returns-in-Some-clause-some : goal.returns-in-Some-clause-some
returns-in-Some-clause-some c =
    let given = sym (first_value-rows (found_of c.args.given.now) c.args.name.now) ∙ sym c.in-Some.ensures in
    (c.in-Some.field-0.now, given, c.number_of.ensures c.in-Some.field-0.now given)

pub returns-in-None-clause-none : goal.returns-in-None-clause-none
returns-in-None-clause-none c = sym (first_value-rows (found_of c.args.given.now) c.args.name.now) ∙ sym c.in-None.ensures
