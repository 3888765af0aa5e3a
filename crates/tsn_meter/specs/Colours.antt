-- Tests of a colour.
use Rattle.std.specs.Prelude.{Bool, true, false, not}
use Rattle.tsn_meter.specs.declared.bucket.Colour.{Colour}
use Rattle.tsn_meter.specs.declared.bucket.Colour.TheVariants.{Green, Yellow, Red}

abbrev pub is_green : Colour → Bool
is_green Green = true
is_green c = false

abbrev pub is_yellow : Colour → Bool
is_yellow Yellow = true
is_yellow c = false

abbrev pub is_red : Colour → Bool
is_red Red = true
is_red c = false

-- what passes a meter is green or yellow
abbrev pub is_passed : Colour → Bool
is_passed c = not (is_red c)
