-- The compact text of a value whose texts are plain ASCII is visible ASCII: it is UTF-8, and has no line feed.
use Rattle.std.proofs.Common.{◌≡◌, ◌≢◌, ℕ, zero, suc, ◌+◌, ◌/◌, ◌%◌, ◌==◌, ◌<◌, ◌≤◌, List, [], ◌∷◌, ◌++◌, length, map, get_or, Option, Some, None, Bool, true, false, cond, not, ◌&&◌, nat_lt, nat_le, decimal, refl, ap, ◌∙◌, arith}
use Rattle.std.specs.Prelude.{⊤, All}
use Rattle.std.specs.List.{list_all}
use Rattle.std.specs.Str.{is_utf8}
use Rattle.std.specs.Fmt.{digits, digits_onto, digit_glyph}
use Rattle.std.proofs.lemmas.Bool.{and_parts, and_from, ltb-true, lt-ltb, leb-true, le-leb, not-true, eqb-false, ne_eqb}
use Rattle.std.proofs.lemmas.Str.{is_utf8-from_IsUtf8, IsUtf8-from_ascii}
use Rattle.json.specs.Print.{escape, quoted}
use Rattle.json.proofs.Printed.Strings.{escape_byte_plain}
use Rattle.serde_json.specs.Data.{Num, unsigned, negative, float, Data, null, boolean, number, string, array, object, Items, no_items, item, Members, no_members, member}
use Rattle.serde_json.specs.View.{items_of}
use Rattle.serde_json.specs.Written.{compact_text, items_text, members_text, number_text, comma_if}
use Rattle.tsn_types.specs.declared.keys.Kind.{Kind}
use Rattle.tsn_types.specs.declared.keys.Kind.TheVariants as kinds
use Rattle.tsn_records.specs.Keys.{kind_text, spelled_key}
use Rattle.tsn_records.specs.Shown.{or_null}

-- a space or what ASCII shows
abbrev pub is_visible : ℕ → Bool
is_visible b = nat_le 32 b && nat_lt b 127

abbrev pub are_visible : List ℕ → Bool
are_visible = list_all is_visible

-- and neither a quote nor a backslash
abbrev pub is_plain : ℕ → Bool
is_plain b = is_visible b && (not (b == 34) && not (b == 92))

abbrev pub are_plain : List ℕ → Bool
are_plain = list_all is_plain

-- a whole number with no sign
abbrev pub IsWhole : Num → Type 0
IsWhole (unsigned n) = ⊤
IsWhole (negative z) = ⊥
IsWhole (float x) = ⊥

-- its texts are plain, its numbers whole
abbrev mutual
  pub IsShown : Data → Type 0
  IsShown null = ⊤
  IsShown (boolean b) = ⊤
  IsShown (number x) = IsWhole x
  IsShown (string s) = are_plain s ≡ true
  IsShown (array ds) = ItemsAreShown ds
  IsShown (object ms) = MembersAreShown ms

  pub ItemsAreShown : Items → Type 0
  ItemsAreShown no_items = ⊤
  ItemsAreShown (item d ds) = IsShown d × ItemsAreShown ds

  pub MembersAreShown : Members → Type 0
  MembersAreShown no_members = ⊤
  MembersAreShown (member k d ms) = (are_plain k ≡ true) × IsShown d × MembersAreShown ms

visible_both : (xs ys : List ℕ) → are_visible xs ≡ true → are_visible ys ≡ true → are_visible (xs ++ ys) ≡ true
visible_both [] ys h k = k
visible_both (x ∷ xs) ys h k = let p = and_parts _ _ h in and_from _ _ p.0 (visible_both xs ys p.1 k)

-- ---- numbers

-- each digit passes a test of bytes
module _ (test : ℕ → Bool) (digit : (d : ℕ) → d < 10 → test (48 + d) ≡ true) where
  glyph_passes : (n : ℕ) → test (digit_glyph false (n % 10)) ≡ true
  glyph_passes n =
      let small : n % 10 < 10 = omega arith in
      ap (λ b. test (cond b (48 + n % 10) (87 + n % 10))) (lt-ltb _ _ small) ∙ digit (n % 10) small

  ends_or_goes_on : (b : Bool) (xs ys : List ℕ) → list_all test xs ≡ true → list_all test ys ≡ true → list_all test (cond b xs ys) ≡ true
  ends_or_goes_on true xs ys h k = h
  ends_or_goes_on false xs ys h k = k

  onto_passes : (k n : ℕ) (acc : List ℕ) → list_all test acc ≡ true → list_all test (digits_onto k 10 false n acc) ≡ true
  onto_passes zero n acc h = h
  onto_passes (suc k) n acc h =
      let more : list_all test (digit_glyph false (n % 10) ∷ acc) ≡ true = and_from _ _ (glyph_passes n) h in
      ends_or_goes_on (n / 10 == 0) _ _ more (onto_passes k (n / 10) _ more)

  decimal_passes : (n : ℕ) → list_all test (decimal n) ≡ true
  unfolding digits
  decimal_passes n = onto_passes 64 n [] refl

digit_visible : (d : ℕ) → d < 10 → is_visible (48 + d) ≡ true
digit_visible d h =
    let low : 32 ≤ 48 + d = omega arith in
    let high : 48 + d < 127 = omega arith in
    and_from _ _ (le-leb _ _ low) (lt-ltb _ _ high)

digit_plain : (d : ℕ) → d < 10 → is_plain (48 + d) ≡ true
digit_plain d h = and_from _ _ (digit_visible d h) (rw (ne_eqb (48 + d) 34 (λ e. omega arith), ne_eqb (48 + d) 92 (λ e. omega arith)) refl)

pub decimal_plain : (n : ℕ) → are_plain (decimal n) ≡ true
decimal_plain n = decimal_passes is_plain digit_plain n

number_visible : (x : Num) → IsWhole x → are_visible (number_text x) ≡ true
number_visible (unsigned n) h = decimal_passes is_visible digit_visible n
number_visible (negative z) h = absurd h
number_visible (float x) h = absurd h

-- ---- texts

pub escape_plain : (s : List ℕ) → are_plain s ≡ true → escape s ≡ s
escape_plain [] h = refl
escape_plain (x ∷ xs) h =
    let p = and_parts (is_plain x) _ h in
    let q = and_parts (is_visible x) _ p.0 in
    let r = and_parts (not (x == 34)) _ q.1 in
    let low : 32 ≤ x = leb-true _ _ (and_parts (nat_le 32 x) _ q.0).0 in
    ap (λ l. l ++ escape xs) (escape_byte_plain x (eqb-false x 34 (not-true (x == 34) r.0)) (eqb-false x 92 (not-true (x == 92) r.1)) low)
    ∙ ap (λ l. x ∷ l) (escape_plain xs p.1)

plain_visible : (s : List ℕ) → are_plain s ≡ true → are_visible s ≡ true
plain_visible [] h = refl
plain_visible (x ∷ xs) h = let p = and_parts (is_plain x) _ h in and_from _ _ (and_parts (is_visible x) _ p.0).0 (plain_visible xs p.1)

quoted_visible : (s : List ℕ) → are_plain s ≡ true → are_visible (quoted s) ≡ true
quoted_visible s h = ap (λ l. are_visible (34 ∷ (l ++ 34 ∷ []))) (escape_plain s h) ∙ visible_both s (34 ∷ []) (plain_visible s h) refl

boolean_visible : (b : Bool) → are_visible (compact_text (boolean b)) ≡ true
boolean_visible true = refl
boolean_visible false = refl

comma_visible : (later : Bool) → are_visible (comma_if later) ≡ true
comma_visible true = refl
comma_visible false = refl

-- ---- values

mutual
  pub text_visible : (d : Data) → IsShown d → are_visible (compact_text d) ≡ true
  text_visible null h = refl
  text_visible (boolean b) h = boolean_visible b
  text_visible (number x) h = number_visible x h
  text_visible (string s) h = quoted_visible s h
  text_visible (array ds) h = items_visible false ds h
  text_visible (object ms) h = members_visible false ms h

  items_visible : (later : Bool) (ds : Items) → ItemsAreShown ds → are_visible (items_text later ds) ≡ true
  items_visible later no_items h = refl
  items_visible later (item d ds) h =
      visible_both (comma_if later) _ (comma_visible later)
      (visible_both (compact_text d) _ (text_visible d h.0) (items_visible true ds h.1))

  members_visible : (later : Bool) (ms : Members) → MembersAreShown ms → are_visible (members_text later ms) ≡ true
  members_visible later no_members h = refl
  members_visible later (member k d ms) h =
      visible_both (comma_if later) _ (comma_visible later)
      (visible_both (quoted k) _ (quoted_visible k h.0)
      (visible_both (compact_text d) _ (text_visible d h.1) (members_visible true ms h.2)))

-- ---- keys, numbers that may be none, and lists

pub key_shown : (k : Kind) (n : ℕ) → are_plain (spelled_key k n) ≡ true
key_shown kinds.Port n = decimal_plain n
key_shown kinds.Filter n = decimal_plain n
key_shown kinds.Gate n = decimal_plain n
key_shown kinds.Meter n = decimal_plain n

pub kind_shown : (k : Kind) → are_plain (kind_text k) ≡ true
kind_shown kinds.Port = refl
kind_shown k = refl

pub or_null_shown : (o : Option ℕ) → IsShown (or_null o)
or_null_shown None = tt
or_null_shown (Some n) = tt

pub items_shown : {I : Type 0} (f : I → Data) → ((x : I) → IsShown (f x)) → (xs : List I) → ItemsAreShown (items_of (map f xs))
items_shown f each [] = tt
items_shown f each (x ∷ xs) = (each x, items_shown f each xs)

-- ---- what that means

byte_is : (xs : List ℕ) → are_visible xs ≡ true → (k d : ℕ) → k < length xs → (32 ≤ get_or xs k d) × (get_or xs k d < 127)
byte_is [] h k d l = absurd (omega arith)
byte_is (x ∷ xs) h zero d l = let p = and_parts _ _ (and_parts _ _ h).0 in (leb-true _ _ p.0, ltb-true _ _ p.1)
byte_is (x ∷ xs) h (suc k) d l = byte_is xs (and_parts _ _ h).1 k d (omega arith)

pub no_feed : (xs : List ℕ) → are_visible xs ≡ true → All (λ b. b ≢ 10) xs
no_feed xs h k d l e = omega (arith, (byte_is xs h k d l).0, e)

below_128 : (xs : List ℕ) → are_visible xs ≡ true → (i : ℕ) → get_or xs i 0 < 128
below_128 [] h i = omega arith
below_128 (x ∷ xs) h zero =
    let small : x < 127 = ltb-true x 127 (and_parts (nat_le 32 x) _ (and_parts (is_visible x) _ h).0).1 in omega arith
below_128 (x ∷ xs) h (suc i) = below_128 xs (and_parts _ _ h).1 i

pub visible_utf8 : (xs : List ℕ) → are_visible xs ≡ true → is_utf8 xs ≡ true
visible_utf8 xs h = is_utf8-from_IsUtf8 xs (IsUtf8-from_ascii xs (below_128 xs h))
