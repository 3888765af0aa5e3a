-- The names of sessions.
use Rattle.std.specs.Prelude.{ℕ, ◌==◌, Bool, false, ◌&&◌, ◌||◌, not, nat_le, nat_lt, List, [], ◌∷◌, length, Option, Some, None, if◌then◌else◌}
use Rattle.std.specs.Str.{is_utf8}

-- the bytes of the longest name
abbrev pub longest_name : ℕ
longest_name = 64

-- a byte behind another ends a control character: one below a space, a delete, or, behind 194, one of 128 to 159
abbrev pub ends_control : ℕ → ℕ → Bool
ends_control last byte = nat_lt byte 32 || byte == 127 || (last == 194 && nat_le 128 byte && nat_le byte 159)

-- a byte of the text, which stands behind another, ends one
abbrev pub has_control : ℕ → List ℕ → Bool
has_control last [] = false
has_control last (byte ∷ rest) = ends_control last byte || has_control byte rest

-- what may be a name: 1 to 64 bytes of UTF-8 with no control character
abbrev pub is_name : List ℕ → Bool
is_name text = is_utf8 text && nat_le 1 (length text) && nat_le (length text) longest_name && not (has_control 0 text)

-- the name of this text, if it may be one
abbrev pub named : List ℕ → Option (List ℕ)
named text = if is_name text then Some text else None
