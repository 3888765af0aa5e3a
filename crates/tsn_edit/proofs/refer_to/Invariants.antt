use Rattle.std.proofs.Common.{◌≡◌, false, take}
use Rattle.std.specs.List.{list_any}
use Rattle.tsn_types.specs.Keys.{has}
use Rattle.tsn_edit.specs.Changes.{refs_after}
use Rattle.tsn_edit.proofs.refer_to.Given as goal

-- no key so far is referred to
abbrev pub invariant-loop-part : goal.invariant-loop-part
invariant-loop-part l = list_any (λ p. has (refs_after l.later) p.key) (take l.part-index l.earlier) ≡ false
