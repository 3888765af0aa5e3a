-- The compact text of a value of whole numbers that fit 64 bits reads back as that value.
use Rattle.std.proofs.Common.{◌≡◌, ℕ, zero, suc, ◌^◌, ◌<◌, ◌≤◌, List, [], ◌∷◌, map, Option, Some, None, option_map, option_and_then, refl, sym, ap, ◌∙◌, arith, append-nil}
use Rattle.std.specs.Prelude.{IfSome, ⊤}
use Rattle.std.specs.List.{AllByRecursion}
use Rattle.json.specs.Lex.{tokens}
use Rattle.json.specs.Token.{Token}
use Rattle.json.specs.Json as json
use Rattle.json.specs.Tree as tree
use Rattle.json.proofs.Printed.Decimals.{IsNumber-decimal}
use Rattle.json.proofs.Printed.Trees.{value-json_tokens, ArePrintable-json_tokens}
use Rattle.json.proofs.Printed.Tokens.{tokens-print}
use Rattle.serde_json.specs.Data.{Num, unsigned, negative, float, Data, null, number, array, object, Items, no_items, item, Members, no_members, member, put}
use Rattle.serde_json.specs.Read.{of_json, of_items, of_members, read, max_depth}
use Rattle.serde_json.specs.View.{items_of}
use Rattle.serde_json.specs.Written.{outline, items_outline, members_outline, compact_text}
use Rattle.serde_json.proofs.Numbers.{number_of-decimal}
use Rattle.serde_json.proofs.Texts.{print-outline}
use Rattle.tsn_records.specs.Shown.{or_null}

-- the members, put in one after another behind those that were found
abbrev pub puts : Members → Members → Members
puts no_members found = found
puts (member k d ms) found = puts ms (put k d found)

-- a number that is written without sign, point or exponent
abbrev pub IsSmall : Num → Type 0
IsSmall (unsigned n) = n < 2 ^ 64
IsSmall (negative z) = ⊥
IsSmall (float x) = ⊥

-- nested at most so deep, its numbers small, its members in their order
abbrev mutual
  pub IsPlain : ℕ → Data → Type 0
  IsPlain n (number x) = IsSmall x
  IsPlain zero (array ds) = ⊥
  IsPlain (suc n) (array ds) = ItemsArePlain n ds
  IsPlain zero (object ms) = ⊥
  IsPlain (suc n) (object ms) = (puts ms no_members ≡ ms) × MembersArePlain n ms
  IsPlain n d = ⊤

  pub ItemsArePlain : ℕ → Items → Type 0
  ItemsArePlain n no_items = ⊤
  ItemsArePlain n (item d ds) = IsPlain n d × ItemsArePlain n ds

  pub MembersArePlain : ℕ → Members → Type 0
  MembersArePlain n no_members = ⊤
  MembersArePlain n (member k d ms) = IsPlain n d × MembersArePlain n ms

number_back : (x : Num) → IsSmall x → of_json (outline (number x)) ≡ Some (number x)
number_back (unsigned n) h = ap (option_map number) (number_of-decimal n h)
number_back (negative z) h = absurd h
number_back (float x) h = absurd h

mutual
  pub value_back : (n : ℕ) (d : Data) → IsPlain n d → of_json (outline d) ≡ Some d
  value_back n (number x) h = number_back x h
  value_back zero (array ds) h = absurd h
  value_back (suc n) (array ds) h = ap (option_map array) (items_back n ds h)
  value_back zero (object ms) h = absurd h
  value_back (suc n) (object ms) h = ap (option_map object) (members_back n ms no_members h.1 ∙ ap Some h.0)
  value_back n d h = refl

  items_back : (n : ℕ) (ds : Items) → ItemsArePlain n ds → of_items (items_outline ds) ≡ Some ds
  items_back n no_items h = refl
  items_back n (item d ds) h = rw (value_back n d h.0, items_back n ds h.1)

  members_back : (n : ℕ) (ms found : Members) → MembersArePlain n ms → of_members (members_outline ms) found ≡ Some (puts ms found)
  members_back n no_members found h = refl
  members_back n (member k d ms) found h = rw (value_back n d h.0) (members_back n ms (put k d found) h.1)

number_prints : (x : Num) → IsSmall x → tree.HasNumbers (outline (number x))
number_prints (unsigned n) h = IsNumber-decimal n h
number_prints (negative z) h = absurd h
number_prints (float x) h = absurd h

mutual
  prints : (n : ℕ) (d : Data) → IsPlain n d → tree.HasNumbers (outline d)
  prints n (number x) h = number_prints x h
  prints zero (array ds) h = absurd h
  prints (suc n) (array ds) h = items_print n ds h
  prints zero (object ms) h = absurd h
  prints (suc n) (object ms) h = members_print n ms h.1
  prints n d h = tt

  items_print : (n : ℕ) (ds : Items) → ItemsArePlain n ds → tree.ItemsHaveNumbers (items_outline ds)
  items_print n no_items h = tt
  items_print n (item d ds) h = (prints n d h.0, items_print n ds h.1)

  members_print : (n : ℕ) (ms : Members) → MembersArePlain n ms → tree.MembersHaveNumbers (members_outline ms)
  members_print n no_members h = tt
  members_print n (member k d ms) h = (prints n d h.0, members_print n ms h.1)

mutual
  shallow : (n : ℕ) (d : Data) → IsPlain n d → tree.depth (outline d) ≤ n
  shallow n null h = omega arith
  shallow zero (array ds) h = absurd h
  shallow (suc n) (array ds) h = omega (arith, items_shallow n ds h)
  shallow zero (object ms) h = absurd h
  shallow (suc n) (object ms) h = omega (arith, members_shallow n ms h.1)
  shallow n d h = omega arith

  items_shallow : (n : ℕ) (ds : Items) → ItemsArePlain n ds → tree.items_depth (items_outline ds) ≤ n
  items_shallow n no_items h = omega arith
  items_shallow n (item d ds) h = omega (arith, shallow n d h.0, items_shallow n ds h.1)

  members_shallow : (n : ℕ) (ms : Members) → MembersArePlain n ms → tree.members_depth (members_outline ms) ≤ n
  members_shallow n no_members h = omega arith
  members_shallow n (member k d ms) h = omega (arith, shallow n d h.0, members_shallow n ms h.1)

-- what the whole of a text is read as
abbrev pub whole : Option (json.Json × List Token) → Option Data
whole o = option_and_then of_json (option_and_then (λ p. json.if_last p.0 p.1) o)

-- the text reads as the value
pub read_back : (n : ℕ) (d : Data) → n ≤ max_depth → IsPlain n d → read (compact_text d) ≡ Some d
read_back n d within h =
    let lexed : tokens (compact_text d) ≡ tree.json_tokens (outline d) = ap tokens (sym (print-outline d))
    ∙ tokens-print _ (ArePrintable-json_tokens (outline d) (prints n d h)) in
    let nests : tree.depth (outline d) ≤ max_depth = omega (arith, shallow n d h) in
    ap whole (ap (json.value max_depth) (lexed ∙ sym (append-nil _)) ∙ value-json_tokens (outline d) max_depth [] nests)
    ∙ value_back n d h

-- ---- numbers that may be none, and lists

pub number_or_null : (n : ℕ) (P : ℕ → Type 0) (o : Option ℕ) → ((a : ℕ) → P a → a < 2 ^ 64) → IfSome o P → IsPlain n (or_null o)
number_or_null n P None fits h = tt
number_or_null n P (Some a) fits h = fits a h

pub items_plain : {I : Type 0} (n : ℕ) (P : I → Type 0) (f : I → Data) → ((x : I) → P x → IsPlain n (f x)) → (xs : List I)
    → AllByRecursion P xs → ItemsArePlain n (items_of (map f xs))
items_plain n P f each [] h = tt
items_plain n P f each (x ∷ xs) h = (each x h.0, items_plain n P f each xs h.1)
