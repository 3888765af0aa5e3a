use Rattle.std.proofs.Common.{◌∙◌, ap, inr, refl}
use Rattle.std.specs.Prelude.{codes}
use Rattle.clap.specs.Words.{found_of}
use Rattle.tsn_words.specs.Asking.{endpoint_of}
use Rattle.tsn_words.proofs.Worked.{given_in_rows, kept_given, misgiven_asks}
use Rattle.tsn_words.proofs.arguments.serve_of.Goals as goal

pub returns-in-Ok-clause-asked : goal.returns-in-Ok-clause-asked
returns-in-Ok-clause-asked c = record {
  named = refl;
  setup = given_in_rows (codes "serve") (found_of c.args.given.now) (codes "FILE") _ c.in_ok-file.ensures;
  endpoint = ap endpoint_of (given_in_rows (codes "serve") (found_of c.args.given.now) (codes "listen") _ refl) ∙ c.in_ok-listen.ensures;
  serving = c.given_in-serving.ensures;
  journal = kept_given (codes "serve") (found_of c.args.given.now) c.in_ok-kept.ensures c.in-Ok.is;
}

pub returns-in-Err-clause-asked : goal.returns-in-Err-clause-asked
returns-in-Err-clause-asked c =
    misgiven_asks (codes "serve") (found_of c.args.given.now) c.in_ok-kept.ensures c.in-Err.is (inr refl)
