-- Bare names at the front of a text are keys.
use Rattle.std.proofs.Common.{◌≡◌, ℕ, ◌-◌, ◌<◌, List, [], ◌∷◌, ◌++◌, Bool, true, false, ◌==◌, cond, length, get_or, take, drop, slice_index, Some, None, refl, ap, ◌∙◌, arith}
use Rattle.std.specs.List.{list_all}
use Rattle.std.specs.Cmp.Lexicographic.{pointwise}
use Rattle.std.proofs.lemmas.Bool.{and_parts}
use Rattle.std.proofs.lemmas.Bool.Decides.{nat_tests, Decides-eqb}
use Rattle.std.proofs.lemmas.Slice.Eq.{starts_is}
use Rattle.std.proofs.lemmas.List.{get_or_append_left}
use Rattle.std.specs.Prelude.{nat_lt}
use Rattle.toml_parser.specs.Lexical.{first, is_bare, skip_ws, split_while, dot}
use Rattle.toml_parser.specs.Strings.{starts_string, simple_key, key}
use Rattle.toml_parser.proofs.LexicalLemmas.{split_while-run}
use Rattle.toml_parser.proofs.NumbersLemmas.{list_all-at}
use Rattle.toml_parser.proofs.StringsLemmas.{key_after_turn}
use Rattle.tsn_setup.specs.Plain.{is_name}

-- a bare byte begins no string
no_string : (c : ℕ) (text : List ℕ) → is_bare c ≡ true → starts_string (c ∷ text) ≡ false
no_string c text bare = grind (arith, nat_tests)

simple_at : (b : Bool) (x y : List ℕ × List ℕ) → b ≡ true → x ≡ y → cond b (Some x) None ≡ Some y
simple_at true x y is e = ap Some e
simple_at false x y is e = cc

simple_named : (c : ℕ) (cs more : List ℕ) → list_all is_bare (c ∷ cs) ≡ true → is_bare (first more) ≡ false
    → simple_key ((c ∷ cs) ++ more) ≡ Some (c ∷ cs, more)
unfolding simple_key
simple_named c cs more bare ends =
    let parts = and_parts (is_bare c) (list_all is_bare cs) bare in
    let split : split_while is_bare ((c ∷ cs) ++ more) ≡ (c ∷ cs, more) = split_while-run is_bare (c ∷ cs) more bare ends in
    rw (no_string c (cs ++ more) parts.0) (simple_at (is_bare c) _ _ parts.0 split)

named : (name more : List ℕ) → is_name name ≡ true → is_bare (first more) ≡ false → (first (skip_ws more) == dot) ≡ false
    → key (name ++ more) ≡ Some (([], name), skip_ws more)
named [] more bare ends last = cc
named (c ∷ cs) more bare ends last =
    rw (
      key_after_turn 80 [] ((c ∷ cs) ++ more) (omega arith),
      simple_named c cs more (and_parts (nat_lt 0 (length (c ∷ cs))) (list_all is_bare (c ∷ cs)) bare).1 ends,
      last,
    ) refl

-- the text begins with the name
begun : (name text : List ℕ) (r : Bool) → r ≡ pointwise (λ x y. x == y) name (take (length name) text) → r ≡ true → text ≡ name
    ++ drop (length name) text
begun name text r is found = (starts_is Decides-eqb text name r is).0 found

some_length : (name : List ℕ) → is_name name ≡ true → 0 < length name
some_length [] bare = cc
some_length (c ∷ cs) bare = omega arith

same_bare : (a b : ℕ) → a ≡ b → is_bare b ≡ true → is_bare a ≡ true
same_bare a b same bare = ap is_bare same ∙ bare

last_bare : (name text : List ℕ) → is_name name ≡ true → text ≡ name ++ drop (length name) text
    → is_bare (slice_index text (length name - 1)) ≡ true
last_bare name text bare is =
    let some = some_length name bare in
    let within : length name - 1 < length name = omega arith in
    let same : get_or text (length name - 1) 0 ≡ get_or name (length name - 1) 0 = ap (λ t. get_or t (length name - 1) 0) is
    ∙ get_or_append_left name (drop (length name) text) 0 (length name - 1) within in
    same_bare _ _ same (list_all-at is_bare name (length name - 1) (and_parts (nat_lt 0 (length name)) (list_all is_bare name) bare).1
    within)

-- the last byte of the name is a byte of ASCII
pub record EndsBare (text : List ℕ) (n : ℕ) : Type 0 where
  pub some : 0 < n
  pub there : 0 < slice_index text (n - 1)
  pub ascii : slice_index text (n - 1) < 128

bare_some : (c : ℕ) → is_bare c ≡ true → 0 < c
bare_some c bare = grind (arith, nat_tests)

bare_ascii : (c : ℕ) → is_bare c ≡ true → c < 128
bare_ascii c bare = grind (arith, nat_tests)

pub bare_last : (name text : List ℕ) (r : Bool) → is_name name ≡ true → r ≡ pointwise (λ x y. x == y) name (take (length name) text)
    → r ≡ true → EndsBare text (length name)
bare_last name text r bare is found =
    let last = last_bare name text bare (begun name text r is found) in
    record {
      some = some_length name bare;
      there = bare_some _ last;
      ascii = bare_ascii _ last;
    }

pub key_named : (name text : List ℕ) (r : Bool) → is_name name ≡ true → r ≡ pointwise (λ x y. x == y) name (take (length name) text)
    → r ≡ true
    → is_bare (first (drop (length name) text)) ≡ false → (first (skip_ws (drop (length name) text)) == dot) ≡ false
    → key text ≡ Some (([], name), skip_ws (drop (length name) text))
key_named name text r bare is found ends last =
    ap key (begun name text r is found) ∙ named name (drop (length name) text) bare ends last
