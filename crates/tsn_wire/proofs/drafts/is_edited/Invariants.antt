use Rattle.std.proofs.Common.{◌≡◌, false, take}
use Rattle.std.specs.List.{list_any}
use Rattle.tsn_wire.specs.Batches.{drafted_key, same_draft}
use Rattle.tsn_wire.proofs.drafts.is_edited.Given as goal

-- no edit so far is on the key
abbrev pub invariant-loop-edit : goal.invariant-loop-edit
invariant-loop-edit l = list_any (λ e. same_draft l.key (drafted_key e)) (take l.edit-index l.edits) ≡ false
