-- What the entries of a book keep: all their changes replay from the opening, the standing ones replay from the base, and
-- both end in one configuration.
use Rattle.std.specs.Prelude.{◌≡◌, List}
use Rattle.tsn_types.specs.declared.limits.Limits.{Limits}
use Rattle.tsn_edit.specs.Configuration.{Configuration, IsWellKept}
use Rattle.tsn_edit.specs.Runs.{run, IsGood}
use Rattle.tsn_entries.specs.declared.entries.Entry.{Entry}
use Rattle.tsn_entries.specs.Entries.{IsNumbered, applies, changes, collect, settled_edits, standing}

-- the configuration of a journal: the run from the opening of every change that was applied, in order
abbrev pub configuration : Configuration → List Entry → Configuration
configuration opening es = run opening (changes (collect applies es))

-- where the run of the standing entries begins: where the settled edits lead from the opening
abbrev pub base : Configuration → List Entry → Configuration
base opening es = run opening (changes (settled_edits es))

pub record IsSound (l : Limits) (opening : Configuration) (es : List Entry) : Type 0 where
  pub numbered : IsNumbered 1 es
  pub kept : IsWellKept l opening
  -- each change that was applied fitted
  pub replays : IsGood l opening (changes (collect applies es))
  -- the run of the settled edits is good
  pub settled : IsGood l opening (changes (settled_edits es))
  -- the run of the standing entries from the base is good, and is the configuration
  pub good : IsGood l (base opening es) (changes (standing es))
  pub same : run (base opening es) (changes (standing es)) ≡ configuration opening es
