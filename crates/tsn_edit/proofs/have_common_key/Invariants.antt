use Rattle.std.proofs.Common.{◌≡◌, false, take}
use Rattle.std.specs.List.{list_any}
use Rattle.tsn_types.specs.Keys.{has}
use Rattle.tsn_edit.specs.Changes.{keys_of}
use Rattle.tsn_edit.proofs.have_common_key.Given as goal

-- no key so far is in both
abbrev pub invariant-loop-part : goal.invariant-loop-part
invariant-loop-part l = list_any (λ p. has (keys_of l.earlier) p.key) (take l.part-index l.later) ≡ false
