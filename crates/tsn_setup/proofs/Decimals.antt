-- Digits at the front of a text are a number of TOML.
use Rattle.std.proofs.Common.{◌≡◌, ℕ, ◌+◌, ◌<◌, ◌^◌, pos, List, [], ◌∷◌, ◌++◌, Bool, true, false, ◌==◌, length, get_or, take, decimal, cond, suc, Some, Result, Ok, Err, get_or-take, refl, sym, ap, ◌∙◌, arith}
use Rattle.std.proofs.lemmas.Bool.{and_parts}
use Rattle.std.proofs.lemmas.Bool.Decides.{nat_tests}
use Rattle.std.proofs.lemmas.Fmt.{decimal-digits_value}
use Rattle.std.proofs.lemmas.List.Folds.{length-prefix_len}
use Rattle.std.proofs.lemmas.Str.Parse.{parse_digits}
use Rattle.std.specs.Char.{is_ascii_digit}
use Rattle.std.specs.List.{prefix_len, list_all}
use Rattle.std.specs.Result.{OkIff, result_ok}
use Rattle.std.specs.Str.Parse.{digits_value, ParsesUnsigned}
use Rattle.toml_parser.specs.Lexical.{first, is_word}
use Rattle.toml_parser.specs.Strings.{starts_string}
use Rattle.toml_parser.specs.declared.scalar.Scalar.TheVariants.{Integer}
use Rattle.toml_writer.proofs.Scalars.{IsWord-pos, unquoted-word}
use Rattle.toml.specs.Data.{integer}
use Rattle.toml.specs.Parse.{atom, val}
use Rattle.toml.proofs.Turns.{val_atom}
use Rattle.tsn_setup.specs.PlainNumbers.{EndsWord}
use Rattle.tsn_records.proofs.Digits.{own}

run_at : (b : Bool) (p : ℕ → Bool) (x : ℕ) (xs : List ℕ) → p x ≡ b → list_all p (take (prefix_len p xs) xs) ≡ true
    → list_all p (take (cond b (1 + prefix_len p xs) 0) (x ∷ xs)) ≡ true
run_at true p x xs is more =
    let n = prefix_len p xs in
    let step : 1 + n ≡ suc n = omega arith in
    rw step (rw (is, more) refl)
run_at false p x xs is more = refl

-- the longest run passes
run_passes : (p : ℕ → Bool) (xs : List ℕ) → list_all p (take (prefix_len p xs) xs) ≡ true
run_passes p [] = refl
run_passes p (x ∷ xs) = run_at (p x) p x xs refl (run_passes p xs)

parsed : (n v k : ℕ) {E : Type 0} (r : Result ℕ E) → r ≡ Ok n → OkIff r ((0 < k) × (v < 2 ^ 64)) v → (v < 2 ^ 64) × (n ≡ v)
parsed n v k (Ok x) is h = (h.0.1, (let e : Ok x ≡ Ok n = is in let same : x ≡ n = cc in sym same ∙ h.1))
parsed n v k (Err e) is h = cc

-- the digits at the front, where they parse as a number
pub spelled : (text : List ℕ) (count n : ℕ) {E : Type 0} (r : Result ℕ E) → count ≡ prefix_len is_ascii_digit text → 0 < count
    → (get_or text 0 0 ≡ 48 → count ≡ 1) → ParsesUnsigned 64 10 (take count text) r → r ≡ Ok n → decimal n ≡ take count text
spelled text count n r is some lead parses ok =
    let digits : list_all is_ascii_digit (take count text) ≡ true = ap (λ k. list_all is_ascii_digit (take k text)) is
    ∙ run_passes is_ascii_digit text in
    let size : length (take count text) ≡ count = ap (λ k. length (take k text)) is ∙ length-prefix_len is_ascii_digit text ∙ sym is in
    let value = parsed n _ _ r ok (parse_digits own 64 (take count text) r parses digits) in
    let first = get_or-take count text 0 0 some in
    ap decimal value.1 ∙ decimal-digits_value own (take count text) digits (omega (arith, size)) (λ e. size ∙ lead (sym first ∙ e)) value.0

word_front : (w rest : List ℕ) → 0 < length w → list_all is_word w ≡ true → is_word (first (w ++ rest)) ≡ true
word_front [] rest some all = absurd (omega arith)
word_front (c ∷ cs) rest some all = (and_parts (is_word c) (list_all is_word cs) all).0

-- such digits are a number of TOML
pub number_alone : (n : ℕ) (text rest : List ℕ) → n < 2 ^ 63 → EndsWord rest → text ≡ decimal n ++ rest → (m : ℕ)
    → val m text ≡ Some (integer (pos n), rest)
unfolding atom
number_alone n text rest small ends is m =
    let word = IsWord-pos n small in
    let front = word_front (decimal n) rest word.some word.all in
    let all = decimal n ++ rest in
    let a : (first all == 91) ≡ false = grind (arith, nat_tests) in
    let b : (first all == 123) ≡ false = grind (arith, nat_tests) in
    let neither : starts_string all ≡ false = grind (arith, nat_tests) in
    ap (val m) is ∙ val_atom m all a b ∙ rw (neither, unquoted-word (decimal n) rest (Integer (pos n)) word.some word.all ends word.value)
    refl

pub was_ok : {A E : Type 0} (r : Result A E) (x : A) → result_ok r ≡ Some x → r ≡ Ok x
was_ok (Ok y) x is = (let e : Some y ≡ Some x = is in cc)
was_ok (Err e) x is = cc
