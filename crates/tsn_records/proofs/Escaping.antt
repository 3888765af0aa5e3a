-- A key's text is the same within a JSON text: none of its bytes is escaped.
use Rattle.std.proofs.Common.{◌≡◌, ℕ, ◌^◌, ◌<◌, ◌≤◌, ◌++◌, List, [], ◌∷◌, true, codes, decimal, refl, ap, ◌∙◌, arith}
use Rattle.std.specs.Char.{is_ascii_digit}
use Rattle.std.specs.List.{list_all}
use Rattle.std.proofs.lemmas.Bool.{leb-true}
use Rattle.std.proofs.lemmas.Fmt.{digits_decimal}
use Rattle.json.specs.Print.{escape, escape_byte}
use Rattle.json.proofs.Printed.Strings.{escape_byte_plain}
use Rattle.tsn_types.specs.declared.keys.Kind.{Kind}
use Rattle.tsn_types.specs.declared.keys.Kind.TheVariants as kinds
use Rattle.tsn_records.specs.Keys.{spelled_key}
use Rattle.tsn_records.proofs.Digits.{own, and_parts}

escape_digits : (ds : List ℕ) → list_all is_ascii_digit ds ≡ true → escape ds ≡ ds
escape_digits [] h = refl
escape_digits (d ∷ ds) h =
    let digit = and_parts _ _ h in
    let bounds = and_parts _ _ digit.0 in
    let low : 48 ≤ d = leb-true _ _ bounds.0 in
    let high : d ≤ 57 = leb-true _ _ bounds.1 in
    ap (λ l. l ++ escape ds) (escape_byte_plain d (λ e. omega arith) (λ e. omega arith) (omega arith))
    ∙ ap (λ l. d ∷ l) (escape_digits ds digit.1)

escape_decimal : (n : ℕ) → n < 2 ^ 64 → escape (decimal n) ≡ decimal n
escape_decimal n small = escape_digits (decimal n) (digits_decimal own n small)

pub escape_key : (k : Kind) (n : ℕ) → n < 2 ^ 64 → escape (spelled_key k n) ≡ spelled_key k n
unfolding escape_byte
escape_key kinds.Port n small = ap (λ l. codes "port " ++ l) (escape_decimal n small)
escape_key kinds.Filter n small = ap (λ l. codes "filter " ++ l) (escape_decimal n small)
escape_key kinds.Gate n small = ap (λ l. codes "gate " ++ l) (escape_decimal n small)
escape_key kinds.Meter n small = ap (λ l. codes "meter " ++ l) (escape_decimal n small)
