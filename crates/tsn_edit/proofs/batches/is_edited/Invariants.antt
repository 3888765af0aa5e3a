use Rattle.std.proofs.Common.{◌≡◌, false, take}
use Rattle.std.specs.List.{list_any}
use Rattle.tsn_types.specs.Keys.{same_key}
use Rattle.tsn_edit.specs.Batches.{key_of}
use Rattle.tsn_edit.proofs.batches.is_edited.Given as goal

-- no edit so far is on the key
abbrev pub invariant-loop-edit : goal.invariant-loop-edit
invariant-loop-edit l = list_any (λ e. same_key l.key (key_of e)) (take l.edit-index l.edits) ≡ false
