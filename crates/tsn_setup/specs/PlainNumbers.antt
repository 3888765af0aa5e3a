-- Numbers in the plain spelling.
use Rattle.std.specs.Prelude.{◌≡◌, ℕ, List, false, ◌&&◌, ◌==◌, slice_index}
use Rattle.std.specs.Char.{is_ascii_digit}
use Rattle.toml_parser.specs.Lexical.{first, is_word, space}

-- no word goes on here, and no time of day stands behind a date
abbrev pub EndsWord : List ℕ → Type 0
EndsWord rest = (is_word (first rest) ≡ false) × ((first rest == space && is_ascii_digit (slice_index rest 1)) ≡ false)
