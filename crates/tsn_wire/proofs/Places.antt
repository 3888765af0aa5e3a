-- A place in a text goes on behind a piece or behind digits.
use Rattle.std.proofs.Common.{◌≡◌, ℕ, ◌+◌, ◌-◌, ◌*◌, ◌^◌, ◌<◌, ◌≤◌, ◌≢◌, ◌++◌, List, [], ◌∷◌, length, take, drop, get_or, true, decimal, refl, sym, ap, ◌∙◌, arith, length-drop, length-append, get_or-take}
use Rattle.std.specs.Char.{is_ascii_digit, digit_value}
use Rattle.std.specs.List.{list_all}
use Rattle.std.specs.Str.Parse.{digits_value}
use Rattle.std.proofs.lemmas.Bool.{leb-true}
use Rattle.std.proofs.lemmas.Fmt.{decimal-digits_value}
use Rattle.std.proofs.lemmas.Int.Digits.{digits_value_push}
use Rattle.std.proofs.lemmas.List.{drop-drop, get_or_append_left, take_more, length-take-le}
use Rattle.std.proofs.lemmas.List.Folds.{list_all-append}
use Rattle.std.proofs.lemmas.Str.{digit_value_digit}
use Rattle.std.proofs.Math.Seq.{drop-append_seam}
use Rattle.tsn_records.proofs.Digits.{own, and_parts}

-- what is left behind a piece
pub behind : (text piece rest : List ℕ) (at : ℕ) → at ≤ length text → drop at text ≡ piece ++ rest
    → drop at text ≡ piece ++ drop (length text - length rest) text
behind text piece rest at fits is =
    let size : length text - at ≡ length piece + length rest = simp length-drop at (ap length is ∙ length-append piece rest) in
    let place : at + length piece ≡ length text - length rest = omega arith in
    let tail : rest ≡ drop (length text - length rest) text =
    sym (drop-append_seam piece rest) ∙ sym (ap (drop (length piece)) is) ∙ drop-drop (length piece) at text
    ∙ ap (λ n. drop n text) place in
    is ∙ ap (λ l. piece ++ l) tail

all_digits_more : (ds : List ℕ) (d : ℕ) → list_all is_ascii_digit ds ≡ true → is_ascii_digit d ≡ true
    → list_all is_ascii_digit (ds ++ d ∷ []) ≡ true
all_digits_more ds d all one = list_all-append is_ascii_digit ds (d ∷ []) ∙ rw (all, one) refl

-- one digit more is digits
pub digits_more : (text : List ℕ) (count : ℕ) → count < length text → is_ascii_digit (get_or text count 0) ≡ true
    → list_all is_ascii_digit (take count text) ≡ true → list_all is_ascii_digit (take (count + 1) text) ≡ true
digits_more text count within digit all =
    ap (list_all is_ascii_digit) (take_more text count 0 within) ∙ all_digits_more (take count text) (get_or text count 0) all digit

-- and its value is ten times the value before, and the digit
pub value_more : (text : List ℕ) (count value more : ℕ) → count < length text → is_ascii_digit (get_or text count 0) ≡ true
    → value ≡ digits_value 10 (take count text) → more ≡ value * 10 + (get_or text count 0 - 48)
    → more ≡ digits_value 10 (take (count + 1) text)
value_more text count value more within digit is e =
    let d = get_or text count 0 in
    let bounds = and_parts _ _ digit in
    let own_value : digit_value d + 48 ≡ d = digit_value_digit d (leb-true _ _ bounds.0, leb-true _ _ bounds.1) in
    let sum : value * 10 + (d - 48) ≡ digits_value 10 (take count text) * 10 + digit_value d = ap (λ v. v * 10 + (d - 48)) is
    ∙ ap (λ n. digits_value 10 (take count text) * 10 + n) (omega (arith, own_value)) in
    e ∙ sum ∙ sym (digits_value_push 10 (take count text) d) ∙ sym (ap (digits_value 10) (take_more text count 0 within))

-- digits with no 0 before another spell their number
pub spell : (text : List ℕ) (count value : ℕ) → count ≤ length text → list_all is_ascii_digit (take count text) ≡ true
    → value ≡ digits_value 10 (take count text) → value < 2 ^ 64 → 0 < count → (get_or text 0 0 ≡ 48 → count ≡ 1)
    → take count text ≡ decimal value
spell text count value fits all is small some lead =
    let size : length (take count text) ≡ count = length-take-le count text fits in
    let first = get_or-take count text 0 0 some in
    sym (ap decimal is ∙ decimal-digits_value own (take count text) all (omega (arith, size)) (λ e. size ∙ lead (sym first ∙ e))
    (omega (arith, is)))

-- two texts that begin alike go on alike by one byte
pub one_more : (text piece : List ℕ) (count : ℕ) → count < length piece → length piece ≤ length text
    → get_or text count 0 ≡ get_or piece count 0 → take count text ≡ take count piece → take (count + 1) text ≡ take (count + 1) piece
one_more text piece count within fits byte same =
    take_more text count 0 (omega arith) ∙ ap (λ l. l ++ get_or text count 0 ∷ []) same ∙ ap (λ b. take count piece ++ b ∷ []) byte
    ∙ sym (take_more piece count 0 within)

-- a text with another byte does not begin with the piece
pub mismatch : (text piece rest : List ℕ) (count : ℕ) → count < length piece → get_or text count 0 ≢ get_or piece count 0
    → text ≢ piece ++ rest
mismatch text piece rest count within other e = other (ap (λ l. get_or l count 0) e ∙ get_or_append_left piece rest 0 count within)

-- and neither does a text that is shorter
pub too_short : (text piece rest : List ℕ) → length text < length piece → text ≢ piece ++ rest
too_short text piece rest short e =
    let size : length text ≡ length piece + length rest = ap length e ∙ length-append piece rest in omega arith
