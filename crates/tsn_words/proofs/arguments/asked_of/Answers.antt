use Rattle.std.proofs.Common.{◌∙◌, codes, sym}
use Rattle.clap.specs.declared.parser.matches.ArgMatches.TheViews.{out-ArgMatches}
use Rattle.tsn_words.proofs.Worked.{wanted_by}
use Rattle.tsn_words.proofs.arguments.asked_of.Goals as goal

pub states_of-requires : goal.states_of-requires
states_of-requires c = wanted_by _ (out-ArgMatches c.args.matches.now).subcommand _ (codes "states") _ c.in-Some.ensures.name
    c.in-Some.ensures.rows (sym c.eq.ensures ∙ c.if-eq.true) c.requires

pub serve_of-requires : goal.serve_of-requires
serve_of-requires c = wanted_by _ (out-ArgMatches c.args.matches.now).subcommand _ (codes "serve") _ c.in-Some.ensures.name
    c.in-Some.ensures.rows (sym c.eq-else-eq.ensures ∙ c.if-eq-2.true) c.requires

pub journal_of-requires : goal.journal_of-requires
journal_of-requires c = wanted_by _ (out-ArgMatches c.args.matches.now).subcommand _ (codes "journal") _ c.in-Some.ensures.name
    c.in-Some.ensures.rows (sym c.eq-else-eq-3.ensures ∙ c.if-eq-4.true) c.requires
