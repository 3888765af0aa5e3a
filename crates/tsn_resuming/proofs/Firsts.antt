-- The first command of a text reads back as that text, and is a command that fits a first line.
use Rattle.std.proofs.Common.{◌≡◌, ◌≢◌, ℕ, ◌+◌, ◌*◌, ◌/◌, ◌%◌, ◌≤◌, ◌==◌, ◌||◌, true, cond, List, [], ◌∷◌, ◌++◌, length, None, Some, Ok, codes, IsUtf8, refl, sym, ap, ◌∙◌, subst, arith, length-append}
use Rattle.std.specs.Prelude.{All}
use Rattle.std.specs.Str.{is_utf8}
use Rattle.std.specs.Fmt.{digits}
use Rattle.std.proofs.lemmas.List.Elements.{All-append}
use Rattle.std.proofs.lemmas.Str.{IsUtf8-append, IsUtf8-from_is_utf8, is_utf8-from_IsUtf8}
use Rattle.json.specs.Print.{escape, escape_byte, quoted}
use Rattle.json.proofs.Printed.Utf8.{IsUtf8-are_ascii, IsUtf8-quoted}
use Rattle.serde_json.specs.Read.{read}
use Rattle.serde_json.proofs.OnLiterals.{serde_json_on_literals}
use Rattle.tsn_setup.specs.Setups.{longest_setup}
use Rattle.tsn_recorded.specs.Text.{longest_first_command}
use Rattle.tsn_wire.proofs.Backs.{IsPlain, read_back}
use Rattle.tsn_encoding.proofs.Escapes.{byte_within}
use Rattle.tsn_spelling.proofs.Feeds.{IsNoFeed, quoted_no_feed}
use Rattle.tsn_wire.proofs.Visible.{no_feed}
use Rattle.tsn_wire.specs.Reading.{data_of}
use Rattle.tsn_resuming.specs.First.{first_data, first_text, setup_in, setup_of_data, setup_of_read}
use Rattle.tsn_spelling.proofs.Shortest.{quoted_long}

abbrev front : List ℕ
front = codes "{\"journal\":2,\"setup\":"

first_pieces : (setup : List ℕ) → first_text setup ≡ front ++ (quoted setup ++ codes "}")
unfolding escape_byte digits
first_pieces setup = refl

-- ---- reading back

first_utf8 : (setup : List ℕ) → is_utf8 setup ≡ true → is_utf8 (first_text setup) ≡ true
first_utf8 setup u =
    is_utf8-from_IsUtf8 _ (subst IsUtf8 (sym (first_pieces setup))
    (IsUtf8-append front (quoted setup ++ codes "}") (IsUtf8-are_ascii front refl)
    (IsUtf8-append (quoted setup) (codes "}") (IsUtf8-quoted setup (IsUtf8-from_is_utf8 setup u)) (IsUtf8-are_ascii (codes "}") refl))))

first_plain : (setup : List ℕ) → IsPlain 1 (first_data setup)
unfolding serde_json_on_literals
first_plain setup = (refl, (omega arith, (tt, tt)))

first_read : (setup : List ℕ) → is_utf8 setup ≡ true → data_of (first_text setup) ≡ Some (first_data setup)
first_read setup u =
    ap (λ b. cond b (read (first_text setup)) None) (first_utf8 setup u) ∙ read_back 1 (first_data setup) (omega arith) (first_plain setup)

has_setup : (setup : List ℕ) → setup_of_data (first_data setup) ≡ Ok setup
unfolding serde_json_on_literals
has_setup setup = refl

pub setup_back : (setup : List ℕ) → is_utf8 setup ≡ true → setup_in (first_text setup) ≡ Ok setup
unfolding setup_in
setup_back setup u = ap setup_of_read (first_read setup u) ∙ has_setup setup

-- ---- how long it is

escape_within : (s : List ℕ) → length (escape s) ≤ 6 * length s
escape_within [] = omega arith
escape_within (x ∷ s) = omega (arith, escape_within s, byte_within x, length-append (escape_byte x) (escape s))

pub first_within : (setup : List ℕ) → length setup ≤ longest_setup → length (first_text setup) ≤ longest_first_command
first_within setup h =
    omega (
      arith,
      ap length (first_pieces setup),
      length-append front (quoted setup ++ codes "}"),
      length-append (quoted setup) (codes "}"),
      quoted_long setup,
      escape_within setup,
    )

-- ---- that it is one line

pub first_is_one_line : (setup : List ℕ) → All IsNoFeed (first_text setup)
first_is_one_line setup =
    subst (All IsNoFeed) (sym (first_pieces setup))
    (All-append IsNoFeed front (quoted setup ++ codes "}") (no_feed front refl)
    (All-append IsNoFeed (quoted setup) (codes "}") (quoted_no_feed setup) (no_feed (codes "}") refl)))
