use Rattle.std.proofs.Common.{◌≡◌, false, take}
use Rattle.std.specs.List.{list_any}
use Rattle.tsn_types.specs.Keys.{has}
use Rattle.tsn_edit.specs.Changes.{refs_before}
use Rattle.tsn_edit.proofs.are_referred.Given as goal

-- no key so far is referred to
abbrev pub invariant-loop-part : goal.invariant-loop-part
invariant-loop-part l = list_any (λ p. has (refs_before l.earlier) p.key) (take l.part-index l.later) ≡ false
