use Rattle.std.proofs.Common.{inl, refl}
use Rattle.std.specs.Prelude.{codes}
use Rattle.clap.specs.Words.{found_of}
use Rattle.tsn_words.proofs.Worked.{given_in_rows, kept_given, misgiven_asks}
use Rattle.tsn_words.proofs.arguments.script_of.Goals as goal

pub returns-in-Ok-clause-asked : goal.returns-in-Ok-clause-asked
returns-in-Ok-clause-asked c = record {
  named = refl;
  setup = given_in_rows (codes "script") (found_of c.args.given.now) (codes "FILE") _ c.in_ok-setup.ensures;
  journal = kept_given (codes "script") (found_of c.args.given.now) c.in_ok-kept.ensures c.in-Ok.is;
}

pub returns-in-Err-clause-asked : goal.returns-in-Err-clause-asked
returns-in-Err-clause-asked c =
    misgiven_asks (codes "script") (found_of c.args.given.now) c.in_ok-kept.ensures c.in-Err.is (inl refl)
