-- The members of an object, read in any order: what is known of them after each.
use Rattle.std.specs.Prelude.{◌≡◌, ℕ, ◌≤◌, List, [], ◌∷◌, ◌++◌, false, if◌then◌else◌, Option, Some, None, ⊤}
use Rattle.std.specs.Str.{bytes_eq}
use Rattle.json.specs.Token.{Token}
use Rattle.json.specs.Lex.{Lexeme, token, colon}
use Rattle.json.specs.Json as json
use Rattle.json.specs.Tree.{members_depth}
use Rattle.serde_json.specs.Data.{Data, Members, no_members}
use Rattle.serde_json.specs.Find.{get_member}
use Rattle.serde_json.specs.Read.{of_members}
use Rattle.tsn_records.specs.Json.{members_len}
use Rattle.tsn_wire.specs.Lexed.{members_lexemes, ReadsValue}

-- the names that an object may have, each with its value where that was read
abbrev pub Rows : Type 0
Rows = List (List ℕ × Option Data)

-- what is known of a name, where the object may have it
abbrev pub row_at : List ℕ → Rows → Option (Option Data)
row_at k [] = None
row_at k (r ∷ rows) = if bytes_eq k r.0 then Some r.1 else row_at k rows

-- the rows after a member was read
abbrev pub put_row : List ℕ → Data → Rows → Rows
put_row k d [] = []
put_row k d (r ∷ rows) = (r.0, if bytes_eq k r.0 then Some d else r.1) ∷ put_row k d rows

-- the members have just these values under these names
abbrev pub Tells : Members → Rows → Type 0
Tells ms [] = ⊤
Tells ms (r ∷ rows) = (get_member r.0 ms ≡ r.1) × Tells ms rows

-- no member was read yet
abbrev pub AreOpen : Rows → Type 0
AreOpen [] = ⊤
AreOpen (r ∷ rows) = (r.1 ≡ None) × AreOpen rows

-- The lexemes begin with a name, whose row had no value before and has one after, and with its value.
pub record Fills (n : ℕ) (text : List Lexeme) (name : List ℕ) (before after : Option Data) (rest : List Lexeme) : Type 0 where
  pub value : Data
  pub behind : List Lexeme
  pub named : text ≡ token (Token.string name) ∷ colon ∷ behind
  pub reads : ReadsValue n behind value rest
  pub empty : before ≡ None
  pub full : after ≡ Some value

-- The lexemes begin with a member that may come, whose value has no more than n brackets in one another.
pub record ReadsMember (n : ℕ) (text : List Lexeme) (before after : Rows) (rest : List Lexeme) : Type 0 where
  pub name : List ℕ
  pub value : Data
  pub behind : List Lexeme
  pub named : text ≡ token (Token.string name) ∷ colon ∷ behind
  pub reads : ReadsValue n behind value rest
  pub empty : row_at name before ≡ Some None
  pub full : after ≡ put_row name value before

-- The lexemes begin with an object of so many members, and the rows say their values.
pub record ReadsMembers (n : ℕ) (text : List Lexeme) (rows : Rows) (count : ℕ) (rest : List Lexeme) : Type 0 where
  pub members : json.Members
  pub found : Members
  pub lexemes : text ≡ token Token.begin_object ∷ (members_lexemes false members ++ rest)
  pub reads : of_members members no_members ≡ Some found
  pub tells : Tells found rows
  pub counted : members_len found ≡ count
  pub shallow : members_depth members ≤ n
