use Rattle.std.proofs.Common.{◌≡◌, ◌∙◌, None, Some, ap, codes, false, sym}
use Rattle.std.specs.Prelude.{option_map, unwrap_or}
use Rattle.std.specs.Str.{bytes_eq}
use Rattle.clap.proofs.WalkLemmas.{first_value-rows}
use Rattle.clap.specs.Words.{found_of}
use Rattle.tsn_words.proofs.Worked.{flag_read}
use Rattle.tsn_words.proofs.values.is_flagged.Goals as goal

pub returns-in-Some-clause-given : goal.returns-in-Some-clause-given
returns-in-Some-clause-given c =
    flag_read c.in-Some.text.now c.eq.result (sym (first_value-rows (found_of c.args.given.now) c.args.name.now) ∙ sym c.in-Some.ensures)
    c.eq.ensures

pub returns-in-Some-clause-is : goal.returns-in-Some-clause-is
returns-in-Some-clause-is c =
    c.eq.ensures ∙ ap (λ o. unwrap_or (option_map (λ text. bytes_eq text (codes "true")) o) false)
    (c.in-Some.ensures ∙ first_value-rows (found_of c.args.given.now) c.args.name.now)

pub returns-in-None-clause-given : goal.returns-in-None-clause-given
returns-in-None-clause-given c = (
  λ never. (cc),
  λ has. let bad : None ≡ Some (codes "true") =
      c.in-None.ensures ∙ first_value-rows (found_of c.args.given.now) c.args.name.now ∙ has in (cc),
)

pub returns-in-None-clause-is : goal.returns-in-None-clause-is
returns-in-None-clause-is c =
    ap (λ o. unwrap_or (option_map (λ text. bytes_eq text (codes "true")) o) false)
    (c.in-None.ensures ∙ first_value-rows (found_of c.args.given.now) c.args.name.now)
