use Rattle.std.proofs.Common.{◌≡◌, false, take}
use Rattle.std.specs.List.{list_any}
use Rattle.tsn_types.specs.Keys.{same_key}
use Rattle.tsn_edit.proofs.is_on.Given as goal

-- no part so far is on the key
abbrev pub invariant-loop-part : goal.invariant-loop-part
invariant-loop-part l = list_any (λ p. same_key l.key p.key) (take l.part-index l.parts) ≡ false
