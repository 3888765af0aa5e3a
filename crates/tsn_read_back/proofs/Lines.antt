-- Lines of a table that are read back: a name, and a value that ends the line.
use Rattle.std.proofs.Common.{◌≡◌, ℕ, ◌<◌, ◌≤◌, ◌^◌, pos, List, [], ◌∷◌, ◌++◌, Bool, true, false, ◌==◌, length, codes, decimal, Option, Some, None, IfSome, refl, sym, subst, arith, append_assoc, length-append}
use Rattle.std.proofs.lemmas.Bool.Decides.{nat_tests}
use Rattle.toml_parser.specs.Lexical.{first, skip_ws, skip_blank}
use Rattle.toml_parser.proofs.LexicalLemmas.{skip_ws_none}
use Rattle.toml_writer.specs.Text.{key_text}
use Rattle.toml_writer.proofs.Strings.{is_key_start, is_key_start-key_text}
use Rattle.toml.specs.Data.{integer, boolean}
use Rattle.toml.specs.Parse.{key_equals, ends_line}
use Rattle.toml.specs.Text.{IsValueText}
use Rattle.toml.proofs.Blanks.{starts_value, skip_start, skip_within, skip_newline}
use Rattle.toml.proofs.ReadValues.{EndsValue, value_start, read_value, key_equals-pair}
use Rattle.tsn_setup.specs.Plain.{Tray, number, flag, IsOpen, Trays, tray_at, put_tray, AreOpen, ReadsValue, ReadsMember, ReadsLines, is_name}
use Rattle.tsn_setup.proofs.Turning.{lines_begun, line_more, lines_trimmed}
use Rattle.tsn_setup.proofs.Values.{number_read, flag_read, filled, tray_filled}
use Rattle.tsn_export.specs.Text.{number_line, number_or_none_line, flag_line, flag_text}

-- ---- a name and a value

bare_key : (name : List ℕ) → is_name name ≡ true → key_text name ≡ name
unfolding key_text
bare_key name bare = rw bare refl

pub name_start : (name rest : List ℕ) → is_name name ≡ true → is_key_start (first (name ++ rest)) ≡ true
name_start name rest bare = subst (λ k. is_key_start (first (k ++ rest)) ≡ true) (bare_key name bare) (is_key_start-key_text name rest)

name_equals : (name at_value : List ℕ) → is_name name ≡ true → starts_value (first at_value) ≡ true
    → key_equals (name ++ (codes " = " ++ at_value)) ≡ Some (([], name), at_value)
name_equals name at_value bare start =
    subst (λ k. key_equals (k ++ (codes " = " ++ at_value)) ≡ Some (([], name), at_value)) (bare_key name bare)
    (key_equals-pair name at_value start)

-- The text begins with a value that no white space precedes, and that the tray holds.
pub record Spelled (n : ℕ) (text : List ℕ) (filled : Tray) (rest : List ℕ) : Type 0 where
  pub starts : starts_value (first text) ≡ true
  pub read : ReadsValue n text filled rest

pub member_read : (n : ℕ) (name at_value after : List ℕ) (trays : Trays) (tray full : Tray) → is_name name ≡ true
    → Spelled n at_value full after → tray_at name trays ≡ Some tray → IsOpen tray
    → ReadsMember n (name ++ (codes " = " ++ at_value)) trays (put_tray name full trays) after
member_read n name at_value after trays tray full bare value at unread =
    let named = name_equals name at_value bare value.starts in
    tray_filled n n _ name tray full trays _ after (omega arith) (filled n _ name at_value tray full after named value.read unread) at refl

-- numbers, and true and false
pub number_spelled : (n : ℕ) (rest : List ℕ) → n < 2 ^ 63 → EndsValue rest → Spelled 0 (decimal n ++ rest) (number (Some n)) rest
number_spelled n rest small ends = record {
  starts = (value_start false (integer (pos n)) (decimal n) rest (refl, omega arith) refl).1;
  read = number_read n (pos n) _ rest (λ m. read_value false (integer (pos n)) m (decimal n) rest (refl, omega arith) (omega arith) refl
      ends) refl;
}

flag_is : (b : Bool) → IsValueText false (boolean b) (flag_text b)
flag_is true = refl
flag_is false = refl

pub flag_spelled : (b : Bool) (rest : List ℕ) → EndsValue rest → Spelled 0 (flag_text b ++ rest) (flag (Some b)) rest
flag_spelled b rest ends = record {
  starts = (value_start false (boolean b) (flag_text b) rest (flag_is b) refl).1;
  read = flag_read b _ rest (λ m. read_value false (boolean b) m (flag_text b) rest (flag_is b) (omega arith) refl ends);
}

-- ---- a line of a table

-- The text begins with lines of a table, and the trays say their members; the rest follows them, behind blanks.
abbrev pub Reads : List ℕ → Trays → List ℕ → Type 0
Reads text trays rest = ReadsLines text trays (skip_blank rest)

pub reads_begun : (text : List ℕ) (trays : Trays) → AreOpen trays → Reads text trays text
reads_begun text trays unread = lines_trimmed text trays text (lines_begun text trays unread) (skip_within text)

ends_here : (rest : List ℕ) → ends_line (skip_ws (10 ∷ rest)) ≡ true
ends_here rest = rw (skip_ws_none (10 ∷ rest) refl) (grind (arith, nat_tests))

-- what follows a line ends a value
pub line_end : (rest : List ℕ) → EndsValue (10 ∷ rest)
line_end rest = ((refl, refl), (refl, refl))

pub line_read : (n : ℕ) (text name at_value more : List ℕ) (trays : Trays) (tray full : Tray) → n ≤ 80 → is_name name ≡ true
    → Spelled n at_value full (10 ∷ more) → tray_at name trays ≡ Some tray → IsOpen tray
    → length (10 ∷ more) ≤ length at_value → Reads text trays (name ++ (codes " = " ++ at_value))
    → Reads text (put_tray name full trays) more
line_read n text name at_value more trays tray full low bare value at unread within so =
    let s = name ++ (codes " = " ++ at_value) in
    let start = name_start name (codes " = " ++ at_value) bare in
    let begins : starts_value (first s) ≡ true = grind (arith, nat_tests) in
    let whole : skip_blank s ≡ s = skip_start s begins in
    let here : ReadsLines text trays s = subst (ReadsLines text trays) whole so in
    let size = length-append name (codes " = " ++ at_value) in
    let some : (length (skip_blank s) == 0) ≡ false = rw whole (grind (arith, nat_tests, size)) in
    let other : (first (skip_blank s) == 91) ≡ false = rw whole (grind (arith, nat_tests)) in
    let member : ReadsMember n (skip_blank s) trays (put_tray name full trays) (10 ∷ more) =
    rw whole (member_read n name at_value (10 ∷ more) trays tray full bare value at unread) in
    let after = line_more n text trays (put_tray name full trays) s (10 ∷ more) low here some other member (ends_here more)
    (omega (arith, size, within)) in
    subst (ReadsLines text (put_tray name full trays)) (skip_newline more)
    (lines_trimmed text (put_tray name full trays) (10 ∷ more) after (skip_within (10 ∷ more)))

-- a line for a number, for one that may be none, and for true or false
pub number_back : (text name more : List ℕ) (n : ℕ) (trays : Trays) → is_name name ≡ true → n < 2 ^ 63
    → tray_at name trays ≡ Some (number None) → Reads text trays (number_line name n ++ more)
    → Reads text (put_tray name (number (Some n)) trays) more
number_back text name more n trays bare small at so =
    let pieces : number_line name n ++ more ≡ name ++ (codes " = " ++ (decimal n ++ 10 ∷ more)) = simp append_assoc refl in
    line_read 0 text name (decimal n ++ 10 ∷ more) more trays (number None) (number (Some n)) (omega arith) bare
    (number_spelled n (10 ∷ more) small (line_end more)) at refl
    (omega (arith, length-append (decimal n) (10 ∷ more))) (subst (Reads text trays) pieces so)

pub flag_back : (text name more : List ℕ) (b : Bool) (trays : Trays) → is_name name ≡ true → tray_at name trays ≡ Some (flag None)
    → Reads text trays (flag_line name b ++ more)
    → Reads text (put_tray name (flag (Some b)) trays) more
flag_back text name more b trays bare at so =
    let pieces : flag_line name b ++ more ≡ name ++ (codes " = " ++ (flag_text b ++ 10 ∷ more)) = simp append_assoc refl in
    line_read 0 text name (flag_text b ++ 10 ∷ more) more trays (flag None) (flag (Some b)) (omega arith) bare
    (flag_spelled b (10 ∷ more) (line_end more)) at refl
    (omega (arith, length-append (flag_text b) (10 ∷ more))) (subst (Reads text trays) pieces so)

-- a number that may be none, and is small
pub small : (o : Option ℕ) (most : ℕ) → IfSome o (λ n. n ≤ most) → most < 2 ^ 63 → IfSome o (λ n. n < 2 ^ 63)
small None most fits low = tt
small (Some n) most fits low = omega (arith, fits)

pub number_or_none_back : (text name more : List ℕ) (o : Option ℕ) (trays : Trays) → is_name name ≡ true → IfSome o (λ n. n < 2 ^ 63)
    → tray_at name trays ≡ Some (number None) → put_tray name (number None) trays ≡ trays
    → Reads text trays (number_or_none_line name o ++ more) → Reads text (put_tray name (number o) trays) more
number_or_none_back text name more (Some n) trays bare low at same so = number_back text name more n trays bare low at so
number_or_none_back text name more None trays bare low at same so = subst (λ s. Reads text s more) (sym same) so
