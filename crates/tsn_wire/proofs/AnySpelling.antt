-- A line whose lexemes are those of a command's members is read as that command.
use Rattle.std.proofs.Common.{◌≡◌, ℕ, List, [], ◌∷◌, ◌++◌, Bool, true, false, Option, Some, None, IfSome, Ok, refl, sym, ap, ◌∙◌, arith, append_assoc}
use Rattle.std.specs.Prelude.{IsUtf8}
use Rattle.json.specs.Json as json
use Rattle.json.specs.Lex.{Lexeme, lex, begins_colon, punctuate, Place, fresh, after_value, after_comma, tokens}
use Rattle.json.specs.Token.{Token}
use Rattle.json.specs.Tree.{json_tokens, items_tokens, members_tokens}
use Rattle.json.proofs.Printed.Trees.{value-json_tokens}
use Rattle.serde_json.specs.Data.{object}
use Rattle.serde_json.specs.Read.{read, max_depth}
use Rattle.tsn_wire.specs.Commands.{line_shape}
use Rattle.tsn_wire.specs.Words.{word_of}
use Rattle.tsn_wire.specs.Lexed.{lexed, value_lexemes, items_lexemes, members_lexemes}
use Rattle.tsn_wire.specs.Lines.{line_members, IsSoundLine, IsLine}
use Rattle.tsn_wire.specs.Members.{Rows, ReadsMembers}
use Rattle.tsn_wire.specs.Reading.{line_of_draft, reading}
use Rattle.tsn_wire.specs.declared.drafts.CommandDraft.TheVariants.{Edit}
use Rattle.tsn_wire.specs.declared.drafts.EditDraft.TheVariants as drafts
use Rattle.tsn_wire.specs.declared.drafts.LineDraft.{LineDraft}
use Rattle.tsn_wire.specs.declared.drafts.LineDraft.TheVariants.{Hello, Named, Session}
use Rattle.tsn_wire.proofs.Answering.{data_of_read}
use Rattle.tsn_wire.proofs.Gathering.{object_read}
use Rattle.tsn_wire.proofs.Objects.{Rise}
use Rattle.tsn_wire.proofs.Backs.{whole}
use Rattle.tsn_wire.proofs.CompactSpelling.{reading_of}
use Rattle.tsn_wire.proofs.Shaping.{shaped}

-- ---- the lexemes of a value are punctuated as its tokens

-- a value may begin at once, and behind a comma
abbrev place : Bool → Place
place true = after_comma
place false = fresh

no_colon_items : (js : json.Items) (rest : List Lexeme) → begins_colon (items_lexemes true js ++ rest) ≡ false
no_colon_items json.no_items rest = refl
no_colon_items (json.item j js) rest = refl

no_colon_members : (ms : json.Members) (rest : List Lexeme) → begins_colon (members_lexemes true ms ++ rest) ≡ false
no_colon_members json.no_members rest = refl
no_colon_members (json.member k j ms) rest = refl

-- what is punctuated piece by piece is punctuated as a whole
joined : (p : Place) (value more rest : List Lexeme) (first later : List Token)
    → punctuate p (value ++ (more ++ rest)) ≡ first ++ punctuate after_value (more ++ rest)
    → punctuate after_value (more ++ rest) ≡ later ++ punctuate after_value rest
    → punctuate p ((value ++ more) ++ rest) ≡ (first ++ later) ++ punctuate after_value rest
joined p value more rest first later here others =
    ap (punctuate p) (append_assoc value more rest) ∙ here ∙ ap (λ l. first ++ l) others ∙ sym (append_assoc first later _)

mutual
  unfolding punctuate

  value_punctuated : (later : Bool) (j : json.Json) (rest : List Lexeme) → begins_colon rest ≡ false
      → punctuate (place later) (value_lexemes j ++ rest) ≡ json_tokens j ++ punctuate after_value rest
  value_punctuated true (json.string s) rest h = rw h refl
  value_punctuated false (json.string s) rest h = rw h refl
  value_punctuated true (json.array js) rest h = ap (λ l. Token.begin_array ∷ l) (first_items js rest)
  value_punctuated false (json.array js) rest h = ap (λ l. Token.begin_array ∷ l) (first_items js rest)
  value_punctuated true (json.object ms) rest h = ap (λ l. Token.begin_object ∷ l) (first_members ms rest)
  value_punctuated false (json.object ms) rest h = ap (λ l. Token.begin_object ∷ l) (first_members ms rest)
  value_punctuated later j rest h = refl

  first_items : (js : json.Items) (rest : List Lexeme)
      → punctuate fresh (items_lexemes false js ++ rest) ≡ items_tokens js ++ punctuate after_value rest
  first_items json.no_items rest = refl
  first_items (json.item j js) rest =
      joined fresh (value_lexemes j) (items_lexemes true js) rest (json_tokens j) (items_tokens js)
      (value_punctuated false j (items_lexemes true js ++ rest) (no_colon_items js rest)) (later_items js rest)

  later_items : (js : json.Items) (rest : List Lexeme)
      → punctuate after_value (items_lexemes true js ++ rest) ≡ items_tokens js ++ punctuate after_value rest
  later_items json.no_items rest = refl
  later_items (json.item j js) rest =
      joined after_comma (value_lexemes j) (items_lexemes true js) rest (json_tokens j) (items_tokens js)
      (value_punctuated true j (items_lexemes true js ++ rest) (no_colon_items js rest)) (later_items js rest)

  first_members : (ms : json.Members) (rest : List Lexeme)
      → punctuate fresh (members_lexemes false ms ++ rest) ≡ members_tokens ms ++ punctuate after_value rest
  first_members json.no_members rest = refl
  first_members (json.member k j ms) rest =
      ap (λ l. Token.key k ∷ l) (joined fresh (value_lexemes j) (members_lexemes true ms) rest (json_tokens j) (members_tokens ms)
      (value_punctuated false j (members_lexemes true ms ++ rest) (no_colon_members ms rest)) (later_members ms rest))

  later_members : (ms : json.Members) (rest : List Lexeme)
      → punctuate after_value (members_lexemes true ms ++ rest) ≡ members_tokens ms ++ punctuate after_value rest
  later_members json.no_members rest = refl
  later_members (json.member k j ms) rest =
      ap (λ l. Token.key k ∷ l) (joined fresh (value_lexemes j) (members_lexemes true ms) rest (json_tokens j) (members_tokens ms)
      (value_punctuated false j (members_lexemes true ms ++ rest) (no_colon_members ms rest)) (later_members ms rest))

value_tokens : (line : List ℕ) (j : json.Json) → lexed line ≡ value_lexemes j ++ [] → tokens line ≡ json_tokens j ++ []
unfolding punctuate
value_tokens line j is = ap (punctuate fresh) is ∙ value_punctuated false j [] refl

nothing_left : (rest now : List ℕ) → lexed now ≡ lexed rest → now ≡ [] → lexed rest ≡ []
unfolding lex
nothing_left rest now passed none = sym passed ∙ ap lexed none

rises : (draft : LineDraft) → Rise (line_members draft)
rises Hello = tt
rises (Named name) = tt
rises (Session s (Edit (drafts.Put put key v))) = assumption
rises (Session s (Edit (drafts.Remove key))) = assumption
rises (Session s command) = assumption

line_shaped : (draft : LineDraft) → IsSoundLine draft → line_shape (object (line_members draft)) ≡ Ok draft
unfolding line_shape word_of
line_shaped Hello sound = refl
line_shaped (Named name) never = absurd never
line_shaped (Session s command) sound = shaped s command sound

-- ---- the line

pub any_says : (line rest now : List ℕ) (rows : Rows) (count : ℕ) (o : Option LineDraft)
    → ReadsMembers 5 (lexed line) rows count (lexed rest) → lexed now ≡ lexed rest → now ≡ [] → IfSome o (IsLine rows count) → IsUtf8 line
    → IfSome o (λ draft. reading line ≡ line_of_draft draft)
any_says line rest now rows count None m passed none l utf8 = tt
any_says line rest now rows count (Some draft) m passed none l utf8 =
    let (j, is, same, low) = object_read 5 (lexed line) (lexed rest) rows count (line_members draft) m l.told (rises draft) l.len in
    let text : tokens line ≡ json_tokens j
    ++ [] = value_tokens line j (is ∙ ap (λ x. value_lexemes j ++ x) (nothing_left rest now passed none)) in
    let found : read line ≡ Some (object (line_members draft)) = ap whole
    (ap (json.value max_depth) text ∙ value-json_tokens j max_depth [] (omega (arith, low))) ∙ same in
    reading_of line (object (line_members draft)) draft (data_of_read line (object (line_members draft)) utf8 found)
    (line_shaped draft l.sound)
