-- What stands within quotes has no line feed, whatever the text.
use Rattle.std.proofs.Common.{◌≡◌, ◌≢◌, ℕ, ◌+◌, ◌/◌, ◌%◌, ◌==◌, ◌||◌, nat_lt, Bool, true, false, cond, List, [], ◌∷◌, ◌++◌, refl, arith}
use Rattle.std.specs.Prelude.{All}
use Rattle.std.specs.Char.{digit_char}
use Rattle.std.proofs.lemmas.Bool.{ltb-false}
use Rattle.std.proofs.lemmas.List.Elements.{All-append, All-cons, All-nil}
use Rattle.json.specs.Print.{escape, escape_byte, escape_letter, quoted}
use Rattle.tsn_wire.proofs.Visible.{no_feed}

abbrev pub IsNoFeed : ℕ → Type 0
IsNoFeed b = b ≢ 10

letter : (a b c d e f : Bool) (x : ℕ) → (a ≡ true → x ≢ 10)
    → cond a x (cond b 98 (cond c 102 (cond d 110 (cond e 114 (cond f 116 0))))) ≢ 10
letter true b c d e f x h = h refl
letter false true c d e f x h = λ p. absurd (omega arith)
letter false false true d e f x h = λ p. absurd (omega arith)
letter false false false true e f x h = λ p. absurd (omega arith)
letter false false false false true f x h = λ p. absurd (omega arith)
letter false false false false false true x h = λ p. absurd (omega arith)
letter false false false false false false x h = λ p. absurd (omega arith)

quote_or_slash : (x : ℕ) → ((x == 34) || (x == 92)) ≡ true → x ≢ 10
quote_or_slash x h = λ e. grind arith

letter_no_feed : (x : ℕ) → escape_letter x ≢ 10
letter_no_feed x = letter _ _ _ _ _ _ x (quote_or_slash x)

digit : (b : Bool) (d : ℕ) → cond b (48 + d) (87 + d) ≢ 10
digit true d = λ e. absurd (omega arith)
digit false d = λ e. absurd (omega arith)

digit_no_feed : (d : ℕ) → digit_char d ≢ 10
digit_no_feed d = digit (nat_lt d 10) d

escape_no_feed : (a b : Bool) (x y z w : ℕ) → y ≢ 10 → (b ≡ false → x ≢ 10) → z ≢ 10 → w ≢ 10
    → All IsNoFeed (cond a (92 ∷ y ∷ []) (cond b (92 ∷ 117 ∷ 48 ∷ 48 ∷ z ∷ w ∷ []) (x ∷ [])))
escape_no_feed true b x y z w p q r s =
    All-append IsNoFeed (92 ∷ []) (y ∷ []) (no_feed (92 ∷ []) refl) (All-cons IsNoFeed y [] p (All-nil IsNoFeed))
escape_no_feed false true x y z w p q r s =
    All-append IsNoFeed (92 ∷ 117 ∷ 48 ∷ 48 ∷ []) (z ∷ w ∷ []) (no_feed (92 ∷ 117 ∷ 48 ∷ 48 ∷ []) refl)
    (All-cons IsNoFeed z (w ∷ []) r (All-cons IsNoFeed w [] s (All-nil IsNoFeed)))
escape_no_feed false false x y z w p q r s = All-cons IsNoFeed x [] (q refl) (All-nil IsNoFeed)

no_control : (x : ℕ) → nat_lt x 32 ≡ false → x ≢ 10
no_control x h = λ e. absurd (omega (arith, ltb-false x 32 h))

byte_no_feed : (x : ℕ) → All IsNoFeed (escape_byte x)
unfolding escape_byte
byte_no_feed x = escape_no_feed (nat_lt 0 (escape_letter x)) (nat_lt x 32) x _ _ _ (letter_no_feed x) (no_control x)
    (digit_no_feed (x / 16)) (digit_no_feed (x % 16))

text_no_feed : (s : List ℕ) → All IsNoFeed (escape s)
text_no_feed [] = All-nil IsNoFeed
text_no_feed (x ∷ s) = All-append IsNoFeed (escape_byte x) (escape s) (byte_no_feed x) (text_no_feed s)

pub quoted_no_feed : (s : List ℕ) → All IsNoFeed (quoted s)
quoted_no_feed s = All-append IsNoFeed (34 ∷ []) (escape s ++ 34 ∷ []) (no_feed (34 ∷ []) refl)
    (All-append IsNoFeed (escape s) (34 ∷ []) (text_no_feed s) (no_feed (34 ∷ []) refl))
