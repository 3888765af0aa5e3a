-- A closure that is a test.
use Rattle.std.specs.Prelude.{◌≡◌, Bool}
use denote.Param.Members.{Shared}
use denote.Ref.{Bor}

-- the closure decides what the test decides
abbrev pub Tests : {F X : Type 0} → Shared F (Bor X × Unit {0}) Bool → (X → Bool) → F → Type 0
Tests {F} {X} g test f = (x : Bor X) (b : Bool) → g.post f (x, tt) b → b ≡ test x.now
