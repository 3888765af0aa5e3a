use Rattle.std.proofs.Common.{◌≡◌, false, take}
use Rattle.std.specs.List.{list_any}
use Rattle.tsn_types.specs.Keys.{has, refs_of}
use Rattle.tsn_edit.proofs.is_referred_before.Given as goal

-- no value before so far refers to the key
abbrev pub invariant-loop-part : goal.invariant-loop-part
invariant-loop-part l = list_any (λ p. has (refs_of p.before) l.key) (take l.part-index l.parts) ≡ false
