-- What is read from the lexemes of a text: values.
use Rattle.std.proofs.Common.{◌≡◌, ℕ, ◌≤◌, List, ◌∷◌, ◌++◌, true, false, None, codes, decimal, refl, sym, ap, ◌∙◌, arith}
use Rattle.json.specs.Json as json
use Rattle.json.specs.Lex.{Lexeme}
use Rattle.json.specs.Word.{ends_word}
use Rattle.serde_json.specs.Data.{Data, boolean, string}
use Rattle.serde_json.proofs.Numbers.{number_of-decimal}
use Rattle.tsn_types.specs.declared.keys.Kind.{Kind}
use Rattle.tsn_types.specs.declared.keys.Kind.TheVariants as kinds
use Rattle.tsn_records.specs.Keys.{kind_text, spelled_key}
use Rattle.tsn_records.specs.Shown.{whole_data, or_null}
use Rattle.tsn_wire.specs.Lexed.{lexed, is_bare, ReadsValue}
use Rattle.tsn_wire.specs.Spelled.{IsSmall}
use Rattle.tsn_wire.specs.Words.{word_text}
use Rattle.tsn_wire.proofs.OfWords.{of_word}
use Rattle.tsn_wire.specs.declared.words.Word.{Word}
use Rattle.tsn_wire.proofs.Lexing.{lexed_decimal, lexed_true, lexed_false, lexed_null, lexed_bare, lexed_key}

pub number_read : (n : ℕ) (text now rest : List ℕ) → lexed now ≡ lexed text → IsSmall n → now ≡ decimal n ++ rest → ends_word rest ≡ true
    → ReadsValue 0 (lexed text) (whole_data n) (lexed rest)
number_read n text now rest passed small is ended =
    (json.number (decimal n), sym passed ∙ ap lexed is ∙ lexed_decimal n rest small ended, rw (number_of-decimal n small) refl, omega arith)

pub null_read : (text now rest : List ℕ) → lexed now ≡ lexed text → now ≡ codes "null" ++ rest → ends_word rest ≡ true
    → ReadsValue 0 (lexed text) (or_null None) (lexed rest)
null_read text now rest passed is ended = (json.null, sym passed ∙ ap lexed is ∙ lexed_null rest ended, refl, omega arith)

pub true_read : (text now rest : List ℕ) → lexed now ≡ lexed text → now ≡ codes "true" ++ rest → ends_word rest ≡ true
    → ReadsValue 0 (lexed text) (boolean true) (lexed rest)
true_read text now rest passed is ended = (json.boolean true, sym passed ∙ ap lexed is ∙ lexed_true rest ended, refl, omega arith)

pub false_read : (text now rest : List ℕ) → lexed now ≡ lexed text → now ≡ codes "false" ++ rest → ends_word rest ≡ true
    → ReadsValue 0 (lexed text) (boolean false) (lexed rest)
false_read text now rest passed is ended = (json.boolean false, sym passed ∙ ap lexed is ∙ lexed_false rest ended, refl, omega arith)

pub deeper : (m n : ℕ) (text : List Lexeme) (d : Data) (rest : List Lexeme) → m ≤ n → ReadsValue m text d rest → ReadsValue n text d rest
deeper m n text d rest low (j, is, same, shallow) = (j, is, same, omega arith)

-- ---- texts in quotes

kind_is_bare : (k : Kind) → is_bare (kind_text k) ≡ true
kind_is_bare kinds.Port = refl
kind_is_bare k = refl

-- the text between two quotes
between_quotes : (inner text now inside behind rest : List ℕ) → lexed now ≡ lexed text → now ≡ codes "\"" ++ inside
    → inside ≡ inner ++ behind → behind ≡ codes "\"" ++ rest → lexed text ≡ lexed (34 ∷ (inner ++ 34 ∷ rest))
between_quotes inner text now inside behind rest passed e0 e1 e2 =
    sym passed ∙ ap lexed (e0 ∙ ap (λ l. 34 ∷ l) (e1 ∙ ap (λ l. inner ++ l) e2))

bare_read : (bare text now inside behind rest : List ℕ) → is_bare bare ≡ true → lexed now ≡ lexed text → now ≡ codes "\"" ++ inside
    → inside ≡ bare ++ behind → behind ≡ codes "\"" ++ rest → ReadsValue 2 (lexed text) (string bare) (lexed rest)
bare_read bare text now inside behind rest is passed e0 e1 e2 = (
  json.string bare,
  between_quotes bare text now inside behind rest passed e0 e1 e2 ∙ lexed_bare bare rest is,
  refl,
  omega arith,
)

pub word_read : (w : Word) (text now inside behind rest : List ℕ) → lexed now ≡ lexed text → now ≡ codes "\"" ++ inside
    → inside ≡ word_text w ++ behind → behind ≡ codes "\"" ++ rest → ReadsValue 2 (lexed text) (string (word_text w)) (lexed rest)
word_read w text now inside behind rest = bare_read (word_text w) text now inside behind rest (of_word w).bare

pub kind_read : (k : Kind) (text now inside behind rest : List ℕ) → lexed now ≡ lexed text → now ≡ codes "\"" ++ inside
    → inside ≡ kind_text k ++ behind → behind ≡ codes "\"" ++ rest → ReadsValue 2 (lexed text) (string (kind_text k)) (lexed rest)
kind_read k text now inside behind rest = bare_read (kind_text k) text now inside behind rest (kind_is_bare k)

pub key_read : (k : Kind) (n : ℕ) (text now inside behind rest : List ℕ) → IsSmall n → lexed now ≡ lexed text → now ≡ codes "\"" ++ inside
    → inside ≡ spelled_key k n ++ behind → behind ≡ codes "\"" ++ rest → ReadsValue 2 (lexed text) (string (spelled_key k n)) (lexed rest)
key_read k n text now inside behind rest small passed e0 e1 e2 = (
  json.string (spelled_key k n),
  between_quotes (spelled_key k n) text now inside behind rest passed e0 e1 e2 ∙ lexed_key k n rest small,
  refl,
  omega arith,
)
