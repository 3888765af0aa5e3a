-- A text of digits parses as its number.
use Rattle.std.proofs.Common.{◌≡◌, ℕ, ◌<◌, ◌≤◌, ◌&&◌, List, length, Bool, true, false, Result, Ok, refl, arith, rules, ap, sym, ◌∙◌, Option, Some, None, cond}
use Rattle.std.specs.Char.{is_ascii_digit}
use Rattle.std.specs.List.{list_all}
use Rattle.std.specs.Str.Parse.{ParsesUnsigned, digits_value}
use Rattle.std.proofs.lemmas.Str.Parse.{IsDigitsTest, IsNumeralModel, numerals_by_value, parse_gives, digits_value_short}
use Rattle.tsn_records.specs.Keys.{is_decimal, decimal_of}
use Rattle.std.specs.Result.{result_ok}
use borrow.Author.Tests.{ltb-true, leb-true}

pub and_parts : (a b : Bool) → a && b ≡ true → (a ≡ true) × (b ≡ true)
and_parts true true e = (refl, refl)
and_parts true false e = cc
and_parts false b e = cc

tells : IsDigitsTest (λ ds. list_all is_ascii_digit ds ≡ true)
tells = search rules

-- digits are numerals of ten digits
pub own : IsNumeralModel (λ ds. list_all is_ascii_digit ds ≡ true) (digits_value 10)
own = numerals_by_value (λ ds. list_all is_ascii_digit ds ≡ true) tells

decimal_parses : {E : Type 0} (bs : List ℕ) (r : Result ℕ E) → ParsesUnsigned 64 10 bs r → is_decimal bs ≡ true
    → r ≡ Ok (digits_value 10 bs)
decimal_parses bs r h e =
    let digits = and_parts _ _ e in
    let some = and_parts _ _ digits.1 in
    let short = and_parts _ _ some.1 in
    let more : 0 < length bs = ltb-true _ _ some.0 in
    let ten : length bs ≤ 10 = leb-true _ _ short.0 in
    let small = digits_value_short own bs 10 digits.0 ten in
    parse_gives own 64 bs r h digits.0 more (omega (arith, small))

pub decimal_of_parsed : {E : Type 0} (bs : List ℕ) (r : Result ℕ E) → ParsesUnsigned 64 10 bs r → is_decimal bs ≡ true
    → result_ok r ≡ decimal_of bs
decimal_of_parsed bs r h e = ap result_ok (decimal_parses bs r h e) ∙ sym (ap (λ b. cond b (Some (digits_value 10 bs)) None) e)

-- where none of four tests holds, nothing is chosen
pub none_of : {A : Type 0} (a b c d : Bool) (x y z w : Option A) → a ≡ false → b ≡ false → c ≡ false → d ≡ false
    → None ≡ cond a x (cond b y (cond c z (cond d w None)))
none_of a b c d x y z w p q r s = rw (p, q, r, s)
