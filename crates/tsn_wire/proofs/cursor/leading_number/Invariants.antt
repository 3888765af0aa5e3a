use Rattle.std.proofs.Common.{◌-◌, ◌≡◌, ◌≤◌, ◌<◌, ◌^◌, length, take, true}
use Rattle.std.specs.Char.{is_ascii_digit}
use Rattle.std.specs.List.{list_all}
use Rattle.std.specs.Str.Parse.{digits_value}
use Rattle.tsn_wire.proofs.cursor.leading_number.Given as goal

abbrev pub invariant-digits : goal.invariant-digits
invariant-digits l =
    (l.count ≤ length l.text)
    × (list_all is_ascii_digit (take l.count l.text) ≡ true)
    × (l.value ≡ digits_value 10 (take l.count l.text))
    × (l.value < 2 ^ 64)

abbrev pub decreases-digits : goal.decreases-digits
decreases-digits l = length l.text - l.count
