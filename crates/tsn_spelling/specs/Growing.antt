-- A line that grows: it stands in a vector, and its end in a short text. All of it is for private clauses.
use Rattle.std.specs.Prelude.{◌≡◌, ◌++◌, ℕ, List, codes}
use Rattle.json.specs.Print.{quoted}
use Rattle.tsn_types.specs.declared.keys.Key.{Key}
use Rattle.tsn_types.specs.declared.keys.Kind.{Kind}
use Rattle.tsn_records.specs.Keys.{key_text, kind_text}

-- bytes may have come behind the old ones
pub record Grows (old new : List ℕ) : Type 0 where
  pub more : List ℕ
  pub is : new ≡ old ++ more

-- vector and text, one behind the other, have grown by a piece
pub record GoesOn (line text : List ℕ) (line' text' : List ℕ) (piece : List ℕ) : Type 0 where
  pub is : line' ++ text' ≡ (line ++ text) ++ piece

-- an edit up to its record
abbrev pub edit_front : List ℕ → Key → List ℕ
edit_front word k = codes "{\"do\":" ++ (quoted word ++ (codes ",\"key\":" ++ (quoted (key_text k) ++ codes ",\"record\":")))

-- the line that asks for the numbers of a kind, up to its session
abbrev pub list_front : Kind → List ℕ
list_front k = codes "{\"do\":\"list\",\"kind\":\"" ++ (kind_text k ++ codes "\"")

-- the end of a line
abbrev pub session_end : List ℕ → List ℕ
session_end digits = codes ",\"s\":" ++ (digits ++ codes "}")
