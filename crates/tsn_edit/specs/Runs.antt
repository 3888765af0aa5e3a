-- Runs of changes from a configuration.
use Rattle.std.specs.Prelude.{List, [], ◌∷◌}
use Rattle.tsn_types.specs.declared.limits.Limits.{Limits}
use Rattle.tsn_edit.specs.Parts.{Change}
use Rattle.tsn_edit.specs.Configuration.{Configuration}
use Rattle.tsn_edit.specs.Changes.{after_change, Fits}

-- the changes applied from left to right
abbrev pub run : Configuration → List Change → Configuration
run c [] = c
run c (e ∷ es) = run (after_change c e) es

-- a run is good where each change fits the map in which it stands
abbrev pub IsGood : Limits → Configuration → List Change → Type 0
IsGood l c [] = Unit {0}
IsGood l c (e ∷ es) = Fits l c e × IsGood l (after_change c e) es
