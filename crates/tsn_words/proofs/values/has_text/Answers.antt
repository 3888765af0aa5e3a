use Rattle.std.proofs.Common.{ap, is_some, ◌∙◌}
use Rattle.clap.proofs.WalkLemmas.{first_value-rows}
use Rattle.clap.specs.Words.{found_of}
use Rattle.tsn_words.proofs.Worked.{some_mapped}
use Rattle.tsn_words.proofs.values.has_text.Goals as goal

pub returns : goal.returns
returns c = c.is_some.ensures ∙ some_mapped (λ s. s.now) c.get_str.result
    ∙ ap is_some (c.get_str.ensures ∙ first_value-rows (found_of c.args.given.now) c.args.name.now)
