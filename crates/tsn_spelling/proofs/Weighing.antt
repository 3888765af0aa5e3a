-- Each lexeme of a text stands for at most as many bytes as it takes: what stands for a string has no more bytes than its
-- spelling between the quotes, and a whole number no more digits than its numeral.
use Rattle.std.proofs.Common.{◌≡◌, ℕ, zero, suc, ◌+◌, ◌-◌, ◌/◌, ◌%◌, ◌^◌, ◌<◌, ◌≤◌, Bool, true, false, not, cond, ◌&&◌, ◌||◌, ◌==◌, nat_lt, nat_le, List, [], ◌∷◌, ◌++◌, length, take, drop, get_or, Option, Some, None, option_and_then, decimal, refl, sym, ap, ◌∙◌, subst, arith, append-nil, length-append, nat_eq, inl, inr}
use Rattle.std.specs.Prelude.{⊤, pos, neg_ℤ}
use Rattle.std.specs.List.{prefix_len, starts_with}
use Rattle.std.specs.Char.{is_ascii_digit, is_digit, digit_value, encode_utf8}
use Rattle.std.specs.Str.Parse.{AllDigits, digits_value}
use Rattle.std.proofs.lemmas.Bool.{and_parts, eqb-true, eqb-false, ne_eqb, ltb-false, ltb-true, leb-true, false≢true, cases_Bool}
use Rattle.std.proofs.lemmas.Bool.Decides.{nat_tests}
use Rattle.json.proofs.Printed.Strings.{escape_byte_plain}
use Rattle.json.specs.Print.{escape, escape_byte}
use Rattle.json.specs.Token.{Token, begin_object, end_object, begin_array, end_array, key, string, number, boolean, null, bad}
use Rattle.json.specs.Text.{code_unit, short_escape, is_high_surrogate, is_low_surrogate, surrogate_pair, Within, plain, after_backslash, after_u, after_high, prepend, content}
use Rattle.json.specs.Word.{is_operator, is_space, head, ends_word, word, literal, number_before, after_number}
use Rattle.json.specs.Ascii.{true_text, false_text, null_text}
use Rattle.std.proofs.lemmas.List.Folds.{length-prefix_len}
use Rattle.json.specs.Lex.{Lexeme, token, comma, colon, Class, quote, operator, space, other, class, operator_lexeme, string_token, Mode, between, in_word, in_string, in_escape, lex_byte, lex}
use Rattle.serde_json.specs.Data.{Num, unsigned, negative, float}
use Rattle.std.proofs.lemmas.Int.Digits.{digits_value-lt}
use Rattle.std.proofs.lemmas.Fmt.{length-decimal-le}
use Rattle.std.specs.Float.{binary64, float_is_finite}
use Rattle.std.specs.Float.Numeral.{Parts, scan_numeral, numeral_digits, nearest_float}
use Rattle.serde_json.specs.Read.{number_of, number_from, float_of, is_integer}
use Rattle.tsn_encoding.proofs.Escapes.{byte_short, byte_within, escape_joined}

-- the digits of a whole number; nothing is said of others
abbrev pub whole_weight : Option Num → ℕ
whole_weight (Some (unsigned n)) = length (decimal n)
whole_weight o = 0

-- how many bytes a token takes at least, a key with its colon
abbrev pub token_weight : Token → ℕ
token_weight (key s) = length (escape s) + 3
token_weight (string s) = length (escape s) + 2
token_weight (number s) = whole_weight (number_of s)
token_weight (boolean true) = 4
token_weight (boolean false) = 5
token_weight null = 4
token_weight bad = 0
token_weight t = 1

abbrev pub lexeme_weight : Lexeme → ℕ
lexeme_weight (token t) = token_weight t
lexeme_weight comma = 1
lexeme_weight colon = 1

abbrev pub weight : List Lexeme → ℕ
weight [] = 0
weight (l ∷ ls) = lexeme_weight l + weight ls

-- ---- words

-- how many bytes of a word stand here
abbrev span_of : Class → ℕ → ℕ
span_of operator n = 0
span_of space n = 0
span_of c n = 1 + n

pub span : List ℕ → ℕ
span [] = 0
span (x ∷ xs) = span_of (class x) (span xs)

operator_weight : (a b c d e : Bool)
    → lexeme_weight (cond a (token begin_object)
    (cond b (token end_object) (cond c (token begin_array) (cond d (token end_array) (cond e comma colon))))) ≤ 1
operator_weight true b c d e = omega arith
operator_weight false true c d e = omega arith
operator_weight false false true d e = omega arith
operator_weight false false false true e = omega arith
operator_weight false false false false true = omega arith
operator_weight false false false false false = omega arith

one_operator : (x : ℕ) → lexeme_weight (operator_lexeme x) ≤ 1
one_operator x = operator_weight _ _ _ _ _

-- what is no digit is another byte than a digit
apart : (x n : ℕ) → is_ascii_digit x ≡ true → is_ascii_digit n ≡ false → (x == n) ≡ false
apart x n digit none = ne_eqb x n (λ same. false≢true (sym none ∙ ap is_ascii_digit (sym same) ∙ digit))

digit_class : (x : ℕ) → is_ascii_digit x ≡ true → class x ≡ other
digit_class x h =
    let off = λ (n : ℕ) (none : is_ascii_digit n ≡ false). apart x n h none in
    rw (off 34 refl, off 92 refl, off 123 refl, off 125 refl, off 91 refl, off 93 refl)
    (rw (off 58 refl, off 44 refl, off 32 refl, off 9 refl, off 10 refl, off 13 refl) refl)

digits_step : (b : Bool) (c : Class) (n m : ℕ) → (b ≡ true → c ≡ other) → n ≤ m → cond b (1 + n) 0 ≤ span_of c m
digits_step false c n m h k = omega arith
digits_step true c n m h k = rw (h refl) (omega arith)

digits_span : (t : List ℕ) → prefix_len is_ascii_digit t ≤ span t
unfolding span
digits_span [] = omega arith
digits_span (x ∷ xs) = digits_step (is_ascii_digit x) (class x) (prefix_len is_ascii_digit xs) (span xs) (digit_class x) (digits_span xs)

digits_taken : (k : ℕ) (t : List ℕ) → prefix_len is_ascii_digit (take k t) ≤ prefix_len is_ascii_digit t
digits_taken zero t = omega arith
digits_taken (suc k) [] = omega arith
digits_taken (suc k) (x ∷ xs) =
    taken_step (is_ascii_digit x) (prefix_len is_ascii_digit (take k xs)) (prefix_len is_ascii_digit xs) (digits_taken k xs)
  where
    taken_step : (b : Bool) (n m : ℕ) → n ≤ m → cond b (1 + n) 0 ≤ cond b (1 + m) 0
    taken_step true n m h = omega arith
    taken_step false n m h = omega arith

-- ---- strings

-- with w for what comes behind, the string and its closing quote take at most n bytes
abbrev Fits : ℕ → ℕ → Option (List ℕ) → Type 0
Fits w n None = ⊤
Fits w n (Some s) = w + (length (escape s) + 1) ≤ n

both : (w n : ℕ) (b : Bool) (x y : Option (List ℕ)) → (b ≡ true → Fits w n x) → (b ≡ false → Fits w n y) → Fits w n (cond b x y)
both w n true x y f g = f refl
both w n false x y f g = g refl

then : (w n : ℕ) (f : ℕ → Option (List ℕ)) (o : Option ℕ) → ((u : ℕ) → o ≡ Some u → Fits w n (f u)) → Fits w n (option_and_then f o)
then w n f None h = tt
then w n f (Some u) h = h u refl

longer : (w m n : ℕ) (a : List ℕ) (r : Option (List ℕ)) → Fits w m r → length (escape a) + m ≤ n → Fits w n (prepend a r)
longer w m n a None h le = tt
longer w m n a (Some s) h le = omega (arith, ap length (escape_joined a s), length-append (escape a) (escape s))

same_weight : (w v n : ℕ) (r : Option (List ℕ)) → w ≡ v → Fits v n r → Fits w n r
same_weight w v n r e h = subst (λ k. Fits k n r) (sym e) h

-- what stands for one byte, for a byte that stands for itself, and for each byte of a character
one_escaped : (x : ℕ) → length (escape (x ∷ [])) ≡ length (escape_byte x)
one_escaped x = ap length (append-nil (escape_byte x))

itself_escaped : (x : ℕ) → (x == 34) ≡ false → (x == 92) ≡ false → nat_lt x 32 ≡ false → length (escape_byte x) ≡ 1
itself_escaped x q b l = ap length (escape_byte_plain x (eqb-false x 34 q) (eqb-false x 92 b) (ltb-false x 32 l))

high_escaped : (x : ℕ) → 128 ≤ x → escape_byte x ≡ x ∷ []
high_escaped x h = escape_byte_plain x (λ e. omega (arith, h, e)) (λ e. omega (arith, h, e)) (omega (arith, h))

by_length : (a b c : Bool) (u : ℕ)
    → length (escape (cond a (u ∷ []) (cond b ((192 + u / 64) ∷ (128 + u % 64) ∷ [])
    (cond c ((224 + u / 4096) ∷ (128 + u / 64 % 64) ∷ (128 + u % 64) ∷ [])
    ((240 + u / 262144) ∷ (128 + u / 4096 % 64) ∷ (128 + u / 64 % 64) ∷ (128 + u % 64) ∷ []))))) ≤ 6
by_length true b c u = omega (arith, one_escaped u, byte_within u)
by_length false true c u = rw (high_escaped (192 + u / 64) (omega arith), high_escaped (128 + u % 64) (omega arith)) (omega arith)
by_length false false true u = rw (
  high_escaped (224 + u / 4096) (omega arith),
  high_escaped (128 + u / 64 % 64) (omega arith),
  high_escaped (128 + u % 64) (omega arith),
) (omega arith)
by_length false false false u =
    rw (
      high_escaped (240 + u / 262144) (omega arith),
      high_escaped (128 + u / 4096 % 64) (omega arith),
      high_escaped (128 + u / 64 % 64) (omega arith),
      high_escaped (128 + u % 64) (omega arith),
    ) (omega arith)

encoded : (u : ℕ) → length (escape (encode_utf8 u)) ≤ 6
unfolding encode_utf8
encoded u = by_length _ _ _ u

-- what stands for the byte of a short escape has two bytes at most
shown_alone : (x : ℕ) → ((x == 34) || (x == 92) || (x == 47)) ≡ true → nat_lt x 32 ≡ false
shown_alone x h = grind (arith, nat_tests, h)

by_letter : (a b f n r t : Bool) (x c : ℕ) → (a ≡ true → length (escape_byte x) ≤ 2)
    → cond a (Some x) (cond b (Some 8) (cond f (Some 12) (cond n (Some 10) (cond r (Some 13) (cond t (Some 9) None))))) ≡ Some c
    → length (escape_byte c) ≤ 2
unfolding escape_byte
by_letter true b f n r t x c h is = let same : x ≡ c = (cc) in subst (λ y. length (escape_byte y) ≤ 2) same (h refl)
by_letter false true f n r t x c h is = let same : 8 ≡ c = (cc) in subst (λ y. length (escape_byte y) ≤ 2) same (omega arith)
by_letter false false true n r t x c h is = let same : 12 ≡ c = (cc) in subst (λ y. length (escape_byte y) ≤ 2) same (omega arith)
by_letter false false false true r t x c h is = let same : 10 ≡ c = (cc) in subst (λ y. length (escape_byte y) ≤ 2) same (omega arith)
by_letter false false false false true t x c h is = let same : 13 ≡ c = (cc) in subst (λ y. length (escape_byte y) ≤ 2) same (omega arith)
by_letter false false false false false true x c h is =
    let same : 9 ≡ c = (cc) in subst (λ y. length (escape_byte y) ≤ 2) same (omega arith)
by_letter false false false false false false x c h is = absurd (cc)

short_escaped : (x c : ℕ) → short_escape x ≡ Some c → length (escape (c ∷ [])) ≤ 2
unfolding short_escape
short_escaped x c is =
    omega (
      arith,
      one_escaped c,
      by_letter ((x == 34) || (x == 92) || (x == 47)) (x == 98) (x == 102) (x == 110) (x == 114) (x == 116) x c
          (λ h. byte_short x (shown_alone x h)) is,
    )

in_any_class : (o s : Bool) (x : ℕ) (xs : List ℕ) (k : Mode → List Lexeme)
    → lex_byte in_string (cond o operator (cond s space other)) x xs k ≡ k in_string
in_any_class true s x xs k = refl
in_any_class false true x xs k = refl
in_any_class false false x xs k = refl

string_byte : (x : ℕ) (xs : List ℕ) → (x == 34) ≡ false → (x == 92) ≡ false → lex in_string (x ∷ xs) ≡ lex in_string xs
unfolding lex
string_byte x xs q b = rw (q, b) (in_any_class (is_operator x) (is_space x) x xs (λ next. lex next xs))

string_ends : (x : ℕ) (xs : List ℕ) → (x == 34) ≡ true → lex in_string (x ∷ xs) ≡ lex between xs
unfolding lex
string_ends x xs q = rw q refl

escape_begins : (x : ℕ) (xs : List ℕ) → (x == 92) ≡ true → lex in_string (x ∷ xs) ≡ lex in_escape xs
unfolding lex
escape_begins x xs b = ap (λ y. lex in_string (y ∷ xs)) (eqb-true x 92 b)

escaped_byte : (x : ℕ) (xs : List ℕ) → lex in_escape (x ∷ xs) ≡ lex in_string xs
unfolding lex
escaped_byte x xs = refl

some_test : (b : Bool) (x u : ℕ) → cond b (Some x) None ≡ Some u → b ≡ true
some_test true x u e = refl
some_test false x u e = cc

other_byte : (c x : ℕ) → is_digit c 16 ≡ false → is_digit x 16 ≡ true → (x == c) ≡ false
other_byte c x never h = elim (cases_Bool (x == c)) [
  | inl e ↦ absurd (false≢true (sym never ∙ ap (λ y. is_digit y 16) (sym (eqb-true x c e)) ∙ h))
  | inr e ↦ e
]

hex_byte : (x : ℕ) (xs : List ℕ) → is_digit x 16 ≡ true → lex in_string (x ∷ xs) ≡ lex in_string xs
hex_byte x xs h = string_byte x xs (other_byte 34 x refl h) (other_byte 92 x refl h)

four_hex : (a b c d u : ℕ) (xs : List ℕ) → code_unit a b c d ≡ Some u → lex in_string (a ∷ b ∷ c ∷ d ∷ xs) ≡ lex in_string xs
unfolding code_unit
four_hex a b c d u xs h =
    let all = some_test (is_digit a 16 && is_digit b 16 && is_digit c 16 && is_digit d 16) _ u h in
    let p = and_parts (is_digit a 16 && is_digit b 16 && is_digit c 16) (is_digit d 16) all in
    let q = and_parts (is_digit a 16 && is_digit b 16) (is_digit c 16) p.0 in
    let r = and_parts (is_digit a 16) (is_digit b 16) q.0 in
    hex_byte a (b ∷ c ∷ d ∷ xs) r.0 ∙ hex_byte b (c ∷ d ∷ xs) r.1 ∙ hex_byte c (d ∷ xs) q.1 ∙ hex_byte d xs p.1

-- ---- numbers and words

is_digit_value : (x : ℕ) → is_ascii_digit x ≡ true → digit_value x < 10
is_digit_value x h =
    let p = and_parts _ _ h in
    let low : 48 ≤ x = leb-true _ _ p.0 in
    let high : x ≤ 57 = leb-true _ _ p.1 in
    grind arith

front_step : (b : Bool) (x n : ℕ) (xs : List ℕ) → (b ≡ true → digit_value x < 10) → AllDigits 10 (take n xs)
    → AllDigits 10 (take (cond b (1 + n) 0) (x ∷ xs))
front_step true x n xs h k = let e : 1 + n ≡ suc n = omega arith in rw e (h refl, k)
front_step false x n xs h k = tt

front_digits : (s : List ℕ) → AllDigits 10 (take (prefix_len is_ascii_digit s) s)
front_digits [] = tt
front_digits (x ∷ xs) = front_step (is_ascii_digit x) x (prefix_len is_ascii_digit xs) xs (is_digit_value x) (front_digits xs)

whole_digits : (ds : List ℕ) (k : ℕ) → AllDigits 10 ds → 0 < length ds → length ds ≤ k → digits_value 10 ds < 2 ^ 64
    → length (decimal (digits_value 10 ds)) ≤ k
whole_digits ds k h some le fits =
    let low : digits_value 10 ds < 10 ^ length ds = digits_value-lt 10 ds h in
    let short : length (decimal (digits_value 10 ds)) ≤ length ds = length-decimal-le (length ds) (digits_value 10 ds) some low fits in
    omega arith

no_weight : (b : Bool) (x : Num) (n : ℕ) → whole_weight (Some x) ≡ 0 → whole_weight (cond b (Some x) None) ≤ n
no_weight true x n e = omega arith
no_weight false x n e = omega arith

float_weight : (sign : Bool) (p : Parts) (n : ℕ) → whole_weight (float_of sign p) ≤ n
float_weight sign p n = no_weight (float_is_finite (nearest_float binary64 sign p)) (float (nearest_float binary64 sign p)) n refl

either_weight : (b : Bool) (x y : Option Num) (n : ℕ) → (b ≡ true → whole_weight x ≤ n) → whole_weight y ≤ n → whole_weight (cond b x y) ≤ n
either_weight true x y n h k = h refl
either_weight false x y n h k = k

signed_weight : (p : Parts) (n : ℕ) → whole_weight (number_from true p) ≤ n
signed_weight p n = either_weight (is_integer p && nat_lt 0 (numeral_digits p) && nat_le (numeral_digits p) (2 ^ 63))
    (Some (negative (neg_ℤ (pos (numeral_digits p))))) (float_of true p) n (λ e. omega arith) (float_weight true p n)

unsigned_weight : (p : Parts) (n : ℕ) → (is_integer p ≡ true → numeral_digits p < 2 ^ 64 → length (decimal (numeral_digits p)) ≤ n)
    → whole_weight (number_from false p) ≤ n
unsigned_weight p n h = either_weight (is_integer p && nat_lt (numeral_digits p) (2 ^ 64)) (Some (unsigned (numeral_digits p)))
    (float_of false p) n (λ e. let q = and_parts (is_integer p) _ e in h q.0 (ltb-true _ _ q.1)) (float_weight false p n)

is_false : (b : Bool) → not b ≡ true → b ≡ false
is_false true e = absurd (false≢true e)
is_false false e = refl

no_fraction : (p : Parts) (k : ℕ) → (p.point ≡ false → p.fraction ≡ []) → AllDigits 10 p.whole → length p.whole ≤ k → is_integer p ≡ true
    → numeral_digits p < 2 ^ 64 → length (decimal (numeral_digits p)) ≤ k
no_fraction p k none digits le h fits =
    let a = and_parts (nat_lt 0 (length p.whole) && not p.point) _ h in
    let b = and_parts (nat_lt 0 (length p.whole)) (not p.point) a.0 in
    let same : p.whole ++ p.fraction ≡ p.whole = ap (λ l. p.whole ++ l) (none (is_false p.point b.1)) ∙ append-nil p.whole in
    let within : digits_value 10 p.whole < 2 ^ 64 = subst (λ l. digits_value 10 l < 2 ^ 64) same fits in
    subst (λ l. length (decimal (digits_value 10 l)) ≤ k) (sym same) (whole_digits p.whole k digits (ltb-true _ _ b.0) le within)

scanned : (s : List ℕ) → is_integer (scan_numeral s) ≡ true → numeral_digits (scan_numeral s) < 2 ^ 64
    → length (decimal (numeral_digits (scan_numeral s))) ≤ prefix_len is_ascii_digit s
unfolding scan_numeral
scanned s =
    let n = prefix_len is_ascii_digit s in
    let all : 0 + n - 0 ≡ n = omega arith in
    no_fraction (scan_numeral s) n (λ e. rw e refl) (rw all (front_digits s)) (rw all (omega (arith, length-prefix_len is_ascii_digit s)))

number_weight : (s : List ℕ) → whole_weight (number_of s) ≤ prefix_len is_ascii_digit s
unfolding number_of
number_weight s =
    either_weight (get_or s 0 0 == 45) (number_from true (scan_numeral (drop 1 s))) (number_from false (scan_numeral s))
    (prefix_len is_ascii_digit s)
    (λ e. signed_weight (scan_numeral (drop 1 s)) (prefix_len is_ascii_digit s))
    (unsigned_weight (scan_numeral s) (prefix_len is_ascii_digit s) (scanned s))

word_other : (x c : ℕ) (h : (c == x) ≡ true) → class c ≡ other → class x ≡ other
word_other x c h e = ap class (sym (eqb-true c x h)) ∙ e

-- a name of which no byte is a quote, an operator or the like
abbrev AreLetters : List ℕ → Type 0
AreLetters [] = ⊤
AreLetters (c ∷ cs) = (class c ≡ other) × AreLetters cs

name_span : (name t : List ℕ) → AreLetters name → starts_with nat_eq t name ≡ true → length name ≤ span t
unfolding span
name_span [] t h e = omega arith
name_span (c ∷ cs) [] h e = cc
name_span (c ∷ cs) (x ∷ xs) h e =
    let p = and_parts (c == x) _ e in
    rw (word_other x c p.0 h.0) (omega (arith, name_span cs xs h.1 p.1))

literal_weight : (name t : List ℕ) (u : Token) → AreLetters name → token_weight u ≤ length name → token_weight (literal name u t) ≤ span t
literal_weight name t u letters le =
    chosen _ (λ e. let p = and_parts (starts_with nat_eq t name) _ e in let long : length name ≤ span t = name_span name t letters p.0 in
    omega (arith, le))
  where
    chosen : (b : Bool) → (b ≡ true → token_weight u ≤ span t) → token_weight (cond b u bad) ≤ span t
    chosen true h = h refl
    chosen false h = omega arith

before_weight : (t : List ℕ) (o : Option (List ℕ)) → token_weight (number_before t o) ≤ span t
before_weight t None = omega arith
before_weight t (Some rest) = chosen (ends_word rest)
  where
    chosen : (b : Bool) → token_weight (cond b (number (take (length t - length rest) t)) bad) ≤ span t
    chosen true = omega (arith, number_weight (take (length t - length rest) t), digits_taken (length t - length rest) t, digits_span t)
    chosen false = omega arith

one_word : (b : Bool) (t u : Token) (n : ℕ) → token_weight t ≤ n → token_weight u ≤ n → token_weight (cond b t u) ≤ n
one_word true t u n h k = h
one_word false t u n h k = k

word_weight : (t : List ℕ) → token_weight (word t) ≤ span t
unfolding word
word_weight t =
    let numeral = number_before t (after_number t) in
    let nothing = cond (head t == 110) (literal null_text null t) numeral in
    one_word (head t == 116) (literal true_text (boolean true) t) (cond (head t == 102) (literal false_text (boolean false) t) nothing)
    (span t)
    (literal_weight true_text t (boolean true) (refl, (refl, (refl, (refl, tt)))) (omega arith))
    (one_word (head t == 102) (literal false_text (boolean false) t) nothing (span t)
    (literal_weight false_text t (boolean false) (refl, (refl, (refl, (refl, (refl, tt))))) (omega arith))
    (one_word (head t == 110) (literal null_text null t) numeral (span t)
    (literal_weight null_text t null (refl, (refl, (refl, (refl, tt)))) (omega arith)) (before_weight t (after_number t))))

-- ---- lexemes

quoted_fits : (o : Option (List ℕ)) (w n : ℕ) → Fits w n o → w ≤ n → token_weight (string_token o) + w ≤ suc n
quoted_fits None w n h k = omega arith
quoted_fits (Some s) w n h k = omega arith

byte_between : (c : Class) (x : ℕ) (xs : List ℕ) → Fits (weight (lex in_string xs)) (length xs) (content plain xs)
    → weight (lex in_string xs) ≤ length xs → weight (lex in_word xs) + span xs ≤ length xs
    → weight (lex between xs) ≤ length xs → token_weight (word (x ∷ xs)) ≤ span_of c (span xs)
    → weight (lex_byte between c x xs (λ next. lex next xs)) ≤ suc (length xs)
byte_between quote x xs text closed worded plainly named = quoted_fits (content plain xs) _ _ text closed
byte_between operator x xs text closed worded plainly named = omega (arith, one_operator x)
byte_between c x xs text closed worded plainly named = omega arith

byte_in_word : (c : Class) (x : ℕ) (xs : List ℕ) → weight (lex in_word xs) + span xs ≤ length xs → weight (lex between xs) ≤ length xs
    → weight (lex_byte in_word c x xs (λ next. lex next xs)) + span_of c (span xs) ≤ suc (length xs)
byte_in_word operator x xs worded plainly = omega (arith, one_operator x)
byte_in_word c x xs worded plainly = omega arith

byte_in_string : (c : Class) (x : ℕ) (xs : List ℕ) → weight (lex in_string xs) ≤ length xs → weight (lex in_escape xs) ≤ length xs
    → weight (lex between xs) ≤ length xs
    → weight (lex_byte in_string c x xs (λ next. lex next xs)) ≤ suc (length xs)
byte_in_string quote x xs closed escaped plainly = omega arith
byte_in_string c x xs closed escaped plainly = omega arith

abbrev mode : Within → Mode
mode after_backslash = in_escape
mode w = in_string

-- how many bytes of a spelled character stand ahead
abbrev ahead : Within → ℕ
ahead plain = 0
ahead after_backslash = 1
ahead after_u = 2
ahead (after_high h) = 6

mutual
  unfolding lex content span

  pub between_fits : (xs : List ℕ) → weight (lex between xs) ≤ length xs
  between_fits [] = omega arith
  between_fits (x ∷ xs) = byte_between (class x) x xs (content_fits plain xs (length xs) (omega arith)) (string_fits xs) (word_fits xs)
      (between_fits xs) (word_weight (x ∷ xs))

  word_fits : (xs : List ℕ) → weight (lex in_word xs) + span xs ≤ length xs
  word_fits [] = omega arith
  word_fits (x ∷ xs) = byte_in_word (class x) x xs (word_fits xs) (between_fits xs)

  string_fits : (xs : List ℕ) → weight (lex in_string xs) ≤ length xs
  string_fits [] = omega arith
  string_fits (x ∷ xs) = byte_in_string (class x) x xs (string_fits xs) (escape_fits xs) (between_fits xs)

  escape_fits : (xs : List ℕ) → weight (lex in_escape xs) ≤ length xs
  escape_fits [] = omega arith
  escape_fits (x ∷ xs) = omega (arith, string_fits xs)

  content_fits : (w : Within) (xs : List ℕ) (n : ℕ) → n ≡ ahead w + length xs → Fits (weight (lex (mode w) xs)) n (content w xs)
  content_fits plain (x ∷ xs) n e =
      both _ n (x == 34) _ _ (λ q. let k = string_ends x xs q in omega (arith, ap weight k, between_fits xs, e))
      (λ q. both _ n (x == 92) _ _ (λ b.
      same_weight _ _ n _ (ap weight (escape_begins x xs b)) (content_fits after_backslash xs n (omega (arith, e))))
      (λ b. both _ n (nat_lt x 32) _ _ (λ l. tt)
      (λ l. same_weight _ _ n _ (ap weight (string_byte x xs q b))
      (longer _ (length xs) n (x ∷ []) _ (content_fits plain xs (length xs) (omega arith))
      (omega (arith, e, one_escaped x, itself_escaped x q b l))))))
  content_fits after_backslash (x ∷ xs) n e =
      both _ n (x == 117) _ _ (λ u. content_fits after_u xs n (omega (arith, e)))
      (λ u. then _ n _ (short_escape x)
      (λ c f. longer _ (length xs) n (c ∷ []) _ (content_fits plain xs (length xs) (omega arith))
      (omega (arith, e, short_escaped x c f))))
  content_fits after_u (a ∷ b ∷ c ∷ d ∷ xs) n e =
      then _ n _ (code_unit a b c d) (λ u f. same_weight _ _ n _ (ap weight (four_hex a b c d u xs f))
      (both _ n (is_high_surrogate u) _ _ (λ h. content_fits (after_high u) xs n (omega (arith, e)))
      (λ h. both _ n (is_low_surrogate u) _ _ (λ l. tt)
      (λ l. longer _ (length xs) n (encode_utf8 u) _ (content_fits plain xs (length xs) (omega arith)) (omega (arith, e, encoded u))))))
  content_fits (after_high h) (s ∷ u ∷ a ∷ b ∷ c ∷ d ∷ xs) n e =
      both _ n ((s == 92) && (u == 117)) _ _
      (λ p. then _ n _ (code_unit a b c d)
      (λ l f. same_weight _ _ n _ (ap weight
      (escape_begins s (u ∷ a ∷ b ∷ c ∷ d ∷ xs) (and_parts (s == 92) _ p).0 ∙ escaped_byte u (a ∷ b ∷ c ∷ d ∷ xs)
      ∙ four_hex a b c d l xs f))
      (both _ n (is_low_surrogate l) _ _
      (λ y. longer _ (length xs) n (encode_utf8 (surrogate_pair h l)) _ (content_fits plain xs (length xs) (omega arith))
      (omega (arith, e, encoded (surrogate_pair h l)))) (λ y. tt))))
      (λ p. tt)
  content_fits w xs n e = tt
