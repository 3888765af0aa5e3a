-- How a batch holds its edits: one, or several in a vector.
use Rattle.std.specs.Prelude.{List, [], ◌∷◌}
use Rattle.tsn_edit.specs.declared.Edit.{Edit}
use Rattle.tsn_edit.specs.declared.batches.Edits.{Edits}
use Rattle.tsn_edit.specs.declared.batches.Edits.TheVariants.{One, Many}

-- the edits that are held, as a list
abbrev pub edits_in : Edits → List Edit
edits_in (One e) = e ∷ []
edits_in (Many es) = es.items
