-- The lines that tell what could not be done at a start.
use Rattle.std.specs.Prelude.{ℕ, List, ◌++◌, codes}
use Rattle.tsn_failures.specs.declared.starting.Undone.{Undone}
use Rattle.tsn_failures.specs.declared.starting.Undone.TheVariants.{Reading, Listening}

abbrev pub undone_text : Undone → List ℕ
undone_text Reading = codes "tsnd: cannot read the setup "
undone_text Listening = codes "tsnd: cannot listen on "

-- what could not be done, with the name of the file or the address, and the reason
abbrev pub undone_line : Undone → List ℕ → List ℕ → List ℕ
undone_line undone name reason = undone_text undone ++ name ++ codes ": " ++ reason ++ codes "\n"
