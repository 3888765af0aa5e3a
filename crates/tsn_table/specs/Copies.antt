-- A closure that copies what it is given.
use Rattle.std.specs.Prelude.{◌≡◌, IfOk, Result}
use Rattle.std.specs.declared.alloc.AllocError.{AllocError}
use denote.Param.Members.{Shared}
use denote.Ref.{Bor}

-- where it answers a copy, the copy equals what was given
abbrev pub Copies : {F X : Type 0} → Shared F (Bor X × Unit {0}) (Result X AllocError) → F → Type 0
Copies {F} {X} g f = (x : Bor X) (r : Result X AllocError) → g.post f (x, tt) r → IfOk r (λ y. y ≡ x.now)
