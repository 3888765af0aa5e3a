-- The first lexeme of a text, and what comes after it.
use Rattle.std.proofs.Common.{◌≡◌, ℕ, ◌+◌, ◌<◌, ◌||◌, ◌==◌, List, [], ◌∷◌, ◌++◌, length, drop, get_or, Bool, true, false, cond, codes, decimal, refl, sym, ap, ap₂, ◌∙◌, eqb-true}
use Rattle.std.proofs.lemmas.Bool.{or_parts, not-true, eqb-false, ltb-false}
use Rattle.std.proofs.lemmas.List.{drop_more}
use Rattle.json.specs.Token.{Token}
use Rattle.json.specs.Word.{is_operator, is_space, ends_word, word}
use Rattle.json.specs.Lex.{token, lex, operator_lexeme, string_token}
use Rattle.json.specs.Run.{is_stop}
use Rattle.json.specs.Print.{escape}
use Rattle.json.proofs.Printed.Decimals.{IsNumber-decimal}
use Rattle.json.proofs.Printed.Numbers.{in_word-ended, lex-number}
use Rattle.json.proofs.Printed.Strings.{content-escape, lex-escape, escape_byte_plain}
use Rattle.tsn_types.specs.declared.keys.Kind.{Kind}
use Rattle.tsn_records.specs.Keys.{spelled_key}
use Rattle.tsn_records.proofs.Digits.{and_parts}
use Rattle.tsn_records.proofs.Escaping.{escape_key}
use Rattle.tsn_wire.specs.Lexed.{lexed, is_bare}
use Rattle.tsn_wire.specs.Spelled.{IsSmall}

-- one of four, or of six
one_of_four : {C : Type 0} (a b c d : Bool) → (a ≡ true → C) → (b ≡ true → C) → (c ≡ true → C) → (d ≡ true → C) → (a || b || c || d) ≡ true
    → C
one_of_four true b c d f g h k e = f refl
one_of_four false true c d f g h k e = g refl
one_of_four false false true d f g h k e = h refl
one_of_four false false false true f g h k e = k refl
one_of_four false false false false f g h k e = absurd (cc)

one_of_six : {C : Type 0} (a b c d m n : Bool) → (a ≡ true → C) → (b ≡ true → C) → (c ≡ true → C) → (d ≡ true → C) → (m ≡ true → C)
    → (n ≡ true → C) → (a || b || c || d || m || n) ≡ true → C
one_of_six true b c d m n f g h k p q e = f refl
one_of_six false true c d m n f g h k p q e = g refl
one_of_six false false true d m n f g h k p q e = h refl
one_of_six false false false true m n f g h k p q e = k refl
one_of_six false false false false true n f g h k p q e = p refl
one_of_six false false false false false true f g h k p q e = q refl
one_of_six false false false false false false f g h k p q e = absurd (cc)

-- white space is passed over
space_passed : (x : ℕ) (xs : List ℕ) → is_space x ≡ true → lexed (x ∷ xs) ≡ lexed xs
unfolding lex
space_passed x xs h =
    one_of_four (x == 32) (x == 9) (x == 10) (x == 13) (λ e. ap (λ y. lexed (y ∷ xs)) (eqb-true x 32 e))
    (λ e. ap (λ y. lexed (y ∷ xs)) (eqb-true x 9 e))
    (λ e. ap (λ y. lexed (y ∷ xs)) (eqb-true x 10 e)) (λ e. ap (λ y. lexed (y ∷ xs)) (eqb-true x 13 e)) h

-- one byte of white space more
pub space_more : (text : List ℕ) (count : ℕ) → count < length text → is_space (get_or text count 0) ≡ true
    → lexed (drop count text) ≡ lexed text → lexed (drop (count + 1) text) ≡ lexed text
space_more text count within space before =
    sym (ap lexed (drop_more text count 0 within) ∙ space_passed (get_or text count 0) (drop (count + 1) text) space) ∙ before

-- a mark is a lexeme
pub lexed_mark : (x : ℕ) (xs : List ℕ) → is_operator x ≡ true → lexed (x ∷ xs) ≡ operator_lexeme x ∷ lexed xs
unfolding lex
lexed_mark x xs h =
    one_of_six (x == 123) (x == 125) (x == 91) (x == 93) (x == 58) (x == 44)
    (λ e. ap (λ y. lexed (y ∷ xs)) (eqb-true x 123 e) ∙ sym (ap (λ y. operator_lexeme y ∷ lexed xs) (eqb-true x 123 e)))
    (λ e. ap (λ y. lexed (y ∷ xs)) (eqb-true x 125 e) ∙ sym (ap (λ y. operator_lexeme y ∷ lexed xs) (eqb-true x 125 e)))
    (λ e. ap (λ y. lexed (y ∷ xs)) (eqb-true x 91 e) ∙ sym (ap (λ y. operator_lexeme y ∷ lexed xs) (eqb-true x 91 e)))
    (λ e. ap (λ y. lexed (y ∷ xs)) (eqb-true x 93 e) ∙ sym (ap (λ y. operator_lexeme y ∷ lexed xs) (eqb-true x 93 e)))
    (λ e. ap (λ y. lexed (y ∷ xs)) (eqb-true x 58 e) ∙ sym (ap (λ y. operator_lexeme y ∷ lexed xs) (eqb-true x 58 e)))
    (λ e. ap (λ y. lexed (y ∷ xs)) (eqb-true x 44 e) ∙ sym (ap (λ y. operator_lexeme y ∷ lexed xs) (eqb-true x 44 e))) h

-- the mark at a place
pub mark_at : (text : List ℕ) (at mark : ℕ) → at < length text → get_or text at 0 ≡ mark → is_operator mark ≡ true
    → lexed (drop at text) ≡ operator_lexeme mark ∷ lexed (drop (at + 1) text)
mark_at text at mark within is h =
    ap lexed (drop_more text at 0 within) ∙ ap (λ x. lexed (x ∷ drop (at + 1) text)) is ∙ lexed_mark mark (drop (at + 1) text) h

-- ---- texts in quotes

bare_same : (s : List ℕ) → is_bare s ≡ true → escape s ≡ s
bare_same [] h = refl
bare_same (x ∷ s) h =
    let parts = and_parts _ _ h in
    let no_stop = or_parts _ _ (not-true (is_stop x) parts.0) in
    let tests = or_parts (x == 34) _ no_stop.0 in
    ap (λ l. l ++ escape s) (escape_byte_plain x (eqb-false x 34 tests.0) (eqb-false x 92 tests.1) (ltb-false x 32 no_stop.1))
    ∙ ap (λ l. x ∷ l) (bare_same s parts.1)

lexed_same : (s rest : List ℕ) → escape s ≡ s → lexed (34 ∷ (s ++ 34 ∷ rest)) ≡ token (Token.string s) ∷ lexed rest
unfolding lex
lexed_same s rest same =
    ap (λ l. lexed (34 ∷ (l ++ 34 ∷ rest))) (sym same) ∙ ap₂ (λ o l. token (string_token o) ∷ l) (content-escape s rest) (lex-escape s rest)

pub lexed_bare : (s rest : List ℕ) → is_bare s ≡ true → lexed (34 ∷ (s ++ 34 ∷ rest)) ≡ token (Token.string s) ∷ lexed rest
lexed_bare s rest bare = lexed_same s rest (bare_same s bare)

-- a name between its quotes
pub quoted_before : (text inside name behind rest : List ℕ) → text ≡ 34 ∷ inside → inside ≡ name ++ behind → behind ≡ 34 ∷ rest
    → is_bare name ≡ true → lexed text ≡ token (Token.string name) ∷ lexed rest
quoted_before text inside name behind rest e0 e1 e2 bare =
    ap lexed (e0 ∙ ap (λ l. 34 ∷ l) (e1 ∙ ap (λ l. name ++ l) e2)) ∙ lexed_bare name rest bare

pub lexed_key : (k : Kind) (n : ℕ) (rest : List ℕ) → IsSmall n
    → lexed (34 ∷ (spelled_key k n ++ 34 ∷ rest)) ≡ token (Token.string (spelled_key k n)) ∷ lexed rest
lexed_key k n rest small = lexed_same (spelled_key k n) rest (escape_key k n small)

-- ---- numbers and words, behind which a mark, white space or the end stands

pub lexed_decimal : (n : ℕ) (rest : List ℕ) → IsSmall n → ends_word rest ≡ true
    → lexed (decimal n ++ rest) ≡ token (Token.number (decimal n)) ∷ lexed rest
lexed_decimal n rest small ended = lex-number (decimal n) rest (IsNumber-decimal n small) ended

pub lexed_true : (rest : List ℕ) → ends_word rest ≡ true → lexed (codes "true" ++ rest) ≡ token (Token.boolean true) ∷ lexed rest
unfolding lex word
lexed_true rest ended = ap₂ (λ b l. token (cond b (Token.boolean true) Token.bad) ∷ l) ended (in_word-ended rest ended)

pub lexed_false : (rest : List ℕ) → ends_word rest ≡ true → lexed (codes "false" ++ rest) ≡ token (Token.boolean false) ∷ lexed rest
unfolding lex word
lexed_false rest ended = ap₂ (λ b l. token (cond b (Token.boolean false) Token.bad) ∷ l) ended (in_word-ended rest ended)

pub lexed_null : (rest : List ℕ) → ends_word rest ≡ true → lexed (codes "null" ++ rest) ≡ token Token.null ∷ lexed rest
unfolding lex word
lexed_null rest ended = ap₂ (λ b l. token (cond b Token.null Token.bad) ∷ l) ended (in_word-ended rest ended)
