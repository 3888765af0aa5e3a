-- The lexemes of values: what a text is made of, whatever white space stands between.
use Rattle.std.specs.Prelude.{◌≡◌, ℕ, ◌≤◌, List, [], ◌∷◌, ◌++◌, Bool, true, false, not, if◌then◌else◌, Some}
use Rattle.std.specs.List.{list_all}
use Rattle.json.specs.Token.{Token}
use Rattle.json.specs.Lex.{Lexeme, token, comma, colon, lex, between}
use Rattle.json.specs.Json as json
use Rattle.json.specs.Run.{is_stop}
use Rattle.json.specs.Tree.{depth}
use Rattle.serde_json.specs.Data.{Data}
use Rattle.serde_json.specs.Read.{of_json}

-- the lexemes of a text, which leave out its white space
abbrev pub lexed : List ℕ → List Lexeme
lexed text = lex between text

-- a text that stands in quotes as it is
abbrev pub is_bare : List ℕ → Bool
is_bare text = list_all (λ x. not (is_stop x)) text

-- a comma, where something stands before
abbrev pub comma_if : Bool → List Lexeme
comma_if later = if later then comma ∷ [] else []

-- the lexemes of a value
abbrev mutual
  pub value_lexemes : json.Json → List Lexeme
  value_lexemes json.null = token Token.null ∷ []
  value_lexemes (json.boolean b) = token (Token.boolean b) ∷ []
  value_lexemes (json.number s) = token (Token.number s) ∷ []
  value_lexemes (json.string s) = token (Token.string s) ∷ []
  value_lexemes (json.array js) = token Token.begin_array ∷ items_lexemes false js
  value_lexemes (json.object ms) = token Token.begin_object ∷ members_lexemes false ms

  -- with the closing bracket
  pub items_lexemes : Bool → json.Items → List Lexeme
  items_lexemes later json.no_items = token Token.end_array ∷ []
  items_lexemes later (json.item j js) = comma_if later ++ (value_lexemes j ++ items_lexemes true js)

  pub members_lexemes : Bool → json.Members → List Lexeme
  members_lexemes later json.no_members = token Token.end_object ∷ []
  members_lexemes later (json.member k j ms) =
      comma_if later ++ (token (Token.string k) ∷ (colon ∷ (value_lexemes j ++ members_lexemes true ms)))

-- The lexemes begin with those of a value, which is d and has no more than n brackets in one another; the rest comes after it.
abbrev pub ReadsValue : ℕ → List Lexeme → Data → List Lexeme → Type 0
ReadsValue n text d rest = (j : json.Json) × (text ≡ value_lexemes j ++ rest) × (of_json j ≡ Some d) × (depth j ≤ n)
