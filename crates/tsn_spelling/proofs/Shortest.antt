-- The compact text of a value is no longer than any text that reads as it.
use Rattle.std.proofs.Common.{◌≡◌, ℕ, ◌+◌, ◌≤◌, Bool, true, false, cond, ◌&&◌, List, [], ◌∷◌, ◌++◌, length, Option, Some, None, option_map, option_and_then, Ordering, Less, refl, ap, subst, arith, append_assoc, length-append}
use Rattle.std.specs.Prelude.{⊤}
use Rattle.std.specs.Ordering.{match_ordering, nat_cmp}
use Rattle.std.specs.Cmp.Lexicographic.{slice_cmp}
use Rattle.json.specs.Token.{Token, begin_object, end_object, begin_array, end_array, key, string, number, boolean, null, bad}
use Rattle.json.specs.Print.{ends, escape, quoted}
use Rattle.json.specs.Lex.{Lexeme, token, comma, colon, begins_colon, Place, fresh, after_value, after_comma, after_key, may_begin, may_close, if_allowed, place_token, punctuate, tokens, lex, between}
use Rattle.json.specs.Json as json
use Rattle.json.specs.Tree.{json_tokens, items_tokens, members_tokens}
use Rattle.json.proofs.Unique.Spelling.{value-json_tokens_back}
use Rattle.serde_json.specs.Data as values
use Rattle.serde_json.specs.Data.{Num, unsigned, negative, float, Data, Items, no_items, item, Members, no_members, member, put}
use Rattle.serde_json.specs.Read.{number_of, of_json, of_items, of_members, max_depth, read}
use Rattle.serde_json.specs.Written.{compact_text, items_text, members_text, comma_if}
use Rattle.tsn_wire.proofs.Visible.{IsWhole, IsShown, ItemsAreShown, MembersAreShown}
use Rattle.tsn_spelling.proofs.Weighing.{whole_weight, token_weight, weight, between_fits}

-- ---- tokens take no more than their lexemes

abbrev begins_value : Token → Bool
begins_value end_object = false
begins_value end_array = false
begins_value bad = false
begins_value t = true

-- a comma
abbrev one_if : Bool → ℕ
one_if b = cond b 1 0

-- tokens with the commas between them
abbrev cost : Bool → List Token → ℕ
cost after [] = 0
cost after (t ∷ ts) = one_if (begins_value t && after) + token_weight t + cost (ends t) ts

abbrev is_after : Place → Bool
is_after after_value = true
is_after p = false

no_comma : (p : Place) → may_begin p ≡ true → is_after p ≡ false
no_comma fresh e = refl
no_comma after_value e = cc
no_comma after_comma e = refl
no_comma after_key e = cc

allowed : (after b : Bool) (t : Token) (k : Place → List Token) (next : Place) (n : ℕ)
    → (b ≡ true → one_if (begins_value t && after) + token_weight t + cost (ends t) (k next) ≤ n) → cost after (if_allowed b t k next) ≤ n
allowed after true t k next n h = h refl
allowed after false t k next n h = omega arith

begun : (p : Place) (t : Token) (k : Place → List Token) (next : Place) (n : ℕ) → begins_value t ≡ true
    → token_weight t + cost (ends t) (k next) ≤ n → cost (is_after p) (if_allowed (may_begin p) t k next) ≤ n
begun p t k next n e h = allowed (is_after p) (may_begin p) t k next n (λ may. rw (e, no_comma p may) (omega (arith, h)))

closed : (p : Place) (t : Token) (k : Place → List Token) (next : Place) (n : ℕ) → begins_value t ≡ false
    → token_weight t + cost (ends t) (k next) ≤ n → cost (is_after p) (if_allowed (may_close p) t k next) ≤ n
closed p t k next n e h = allowed (is_after p) (may_close p) t k next n (λ may. rw e (omega (arith, h)))

placed : (p : Place) (t : Token) (before : Bool) (k : Place → List Token) (w : ℕ) → cost false (k fresh) ≤ w → cost true (k after_value) ≤ w
    → (before ≡ true → cost false (k after_key) + 1 ≤ w)
    → cost (is_after p) (place_token p t before k) ≤ token_weight t + w
placed p begin_object before k w a b c = begun p begin_object k fresh _ refl (omega arith)
placed p end_object before k w a b c = closed p end_object k after_value _ refl (omega arith)
placed p begin_array before k w a b c = begun p begin_array k fresh _ refl (omega arith)
placed p end_array before k w a b c = closed p end_array k after_value _ refl (omega arith)
placed p (key s) before k w a b c = omega arith
placed p (string s) true k w a b c = begun p (key s) k after_key _ refl (omega (arith, c refl))
placed p (string s) false k w a b c = begun p (string s) k after_value _ refl (omega arith)
placed p (number s) before k w a b c = begun p (number s) k after_value _ refl (omega arith)
placed p (boolean x) before k w a b c = begun p (boolean x) k after_value _ refl (omega arith)
placed p null before k w a b c = begun p null k after_value _ refl (omega arith)
placed p bad before k w a b c = omega arith

comma_more : (ts : List Token) → cost true ts ≤ 1 + cost false ts
comma_more [] = omega arith
comma_more (t ∷ ts) = more (begins_value t)
  where
    more : (b : Bool) → one_if (b && true) + token_weight t + cost (ends t) ts
        ≤ 1 + (one_if (b && false) + token_weight t + cost (ends t) ts)
    more true = omega arith
    more false = omega arith

mutual
  unfolding punctuate

  fresh_cost : (ls : List Lexeme) → cost false (punctuate fresh ls) ≤ weight ls
  fresh_cost (token t ∷ ls) =
      placed fresh t (begins_colon ls) (λ next. punctuate next ls) (weight ls) (fresh_cost ls) (value_cost ls) (key_cost ls)
  fresh_cost ls = omega arith

  value_cost : (ls : List Lexeme) → cost true (punctuate after_value ls) ≤ weight ls
  value_cost (token t ∷ ls) =
      placed after_value t (begins_colon ls) (λ next. punctuate next ls) (weight ls) (fresh_cost ls) (value_cost ls) (key_cost ls)
  value_cost (comma ∷ ls) = omega (arith, comma_more (punctuate after_comma ls), comma_cost ls)
  value_cost ls = omega arith

  comma_cost : (ls : List Lexeme) → cost false (punctuate after_comma ls) ≤ weight ls
  comma_cost (token t ∷ ls) =
      placed after_comma t (begins_colon ls) (λ next. punctuate next ls) (weight ls) (fresh_cost ls) (value_cost ls) (key_cost ls)
  comma_cost ls = omega arith

  key_cost : (ls : List Lexeme) → begins_colon ls ≡ true → cost false (punctuate after_key ls) + 1 ≤ weight ls
  key_cost (colon ∷ ls) e = omega (arith, fresh_cost ls)
  key_cost ls e = absurd (cc)

-- ---- what a JSON tree takes

abbrev mutual
  json_weight : json.Json → ℕ
  json_weight json.null = 4
  json_weight (json.boolean b) = token_weight (boolean b)
  json_weight (json.number s) = whole_weight (number_of s)
  json_weight (json.string s) = length (escape s) + 2
  json_weight (json.array js) = 1 + items_weight false js
  json_weight (json.object ms) = 1 + members_weight false ms

  items_weight : Bool → json.Items → ℕ
  items_weight later json.no_items = 1
  items_weight later (json.item j js) = one_if later + json_weight j + items_weight true js

  members_weight : Bool → json.Members → ℕ
  members_weight later json.no_members = 1
  members_weight later (json.member k j ms) = one_if later + (length (escape k) + 3) + json_weight j + members_weight true ms

mutual
  json_cost : (after : Bool) (j : json.Json) (ts : List Token)
      → cost after (json_tokens j ++ ts) ≡ one_if after + json_weight j + cost true ts
  json_cost after (json.array js) ts = omega (arith, items_cost false js ts)
  json_cost after (json.object ms) ts = omega (arith, members_cost false ms ts)
  json_cost after j ts = refl

  items_cost : (later : Bool) (js : json.Items) (ts : List Token)
      → cost later (items_tokens js ++ ts) ≡ items_weight later js + cost true ts
  items_cost later json.no_items ts = refl
  items_cost later (json.item j js) ts =
      omega (
        arith,
        ap (cost later) (append_assoc (json_tokens j) (items_tokens js) ts),
        json_cost later j (items_tokens js ++ ts),
        items_cost true js ts,
      )

  members_cost : (later : Bool) (ms : json.Members) (ts : List Token)
      → cost later (members_tokens ms ++ ts) ≡ members_weight later ms + cost true ts
  members_cost later json.no_members ts = refl
  members_cost later (json.member k j ms) ts =
      omega (
        arith,
        ap (cost false) (append_assoc (json_tokens j) (members_tokens ms) ts),
        json_cost false j (members_tokens ms ++ ts),
        members_cost true ms ts,
      )

-- ---- what its value takes

abbrev mutual
  data_weight : Data → ℕ
  data_weight values.null = 4
  data_weight (values.boolean b) = token_weight (boolean b)
  data_weight (values.number x) = whole_weight (Some x)
  data_weight (values.string s) = length (escape s) + 2
  data_weight (values.array ds) = 1 + list_weight false ds
  data_weight (values.object ms) = 1 + object_weight false ms

  list_weight : Bool → Items → ℕ
  list_weight later no_items = 1
  list_weight later (item d ds) = one_if later + data_weight d + list_weight true ds

  object_weight : Bool → Members → ℕ
  object_weight later no_members = 1
  object_weight later (member k d ms) = one_if later + (length (escape k) + 3) + data_weight d + object_weight true ms

-- each member with a comma
abbrev total : Members → ℕ
total no_members = 0
total (member k d ms) = length (escape k) + 4 + data_weight d + total ms

abbrev json_total : json.Members → ℕ
json_total json.no_members = 0
json_total (json.member k j ms) = length (escape k) + 4 + json_weight j + json_total ms

put_step : (o : Ordering) (k l : List ℕ) (d e : Data) (ms more : Members) → total more ≤ total ms + (length (escape k) + 4 + data_weight d)
    → total (match_ordering o (member k d (member l e ms)) (member l d ms) (member l e more)) ≤ total (member l e ms)
    + (length (escape k) + 4 + data_weight d)
put_step Less k l d e ms more h = omega arith
put_step o k l d e ms more h = omega arith

put_total : (k : List ℕ) (d : Data) (ms : Members) → total (put k d ms) ≤ total ms + (length (escape k) + 4 + data_weight d)
put_total k d no_members = omega arith
put_total k d (member l e ms) = put_step (slice_cmp nat_cmp k l) k l d e ms (put k d ms) (put_total k d ms)

later_total : (ms : Members) → object_weight true ms ≡ total ms + 1
later_total no_members = refl
later_total (member k d ms) = omega (arith, later_total ms)

first_total : (ms : Members) (n : ℕ) → total ms ≤ n → 1 ≤ n → object_weight false ms ≤ n
first_total no_members n h k = k
first_total (member name d ms) n h k = omega (arith, later_total ms)

json_later : (ms : json.Members) → members_weight true ms ≡ json_total ms + 1
json_later json.no_members = refl
json_later (json.member k j ms) = omega (arith, json_later ms)

json_first : (ms : json.Members) → (json_total ms ≤ members_weight false ms) × (1 ≤ members_weight false ms)
json_first json.no_members = (omega arith, omega arith)
json_first (json.member k j ms) = (omega (arith, json_later ms), omega (arith, json_later ms))

-- what may be there weighs at most so much
abbrev AtMost : {A : Type 0} → (A → ℕ) → ℕ → Option A → Type 0
AtMost f n None = Unit {0}
AtMost f n (Some a) = f a ≤ n

mapped : {A B : Type 0} (f : A → ℕ) (g : B → ℕ) (m n : ℕ) (h : A → B) → ((a : A) → f a ≤ m → g (h a) ≤ n) → (o : Option A) → AtMost f m o
    → AtMost g n (option_map h o)
mapped f g m n h k None x = tt
mapped f g m n h k (Some a) x = k a x

and_then : {A B : Type 0} (f : A → ℕ) (g : B → ℕ) (m n : ℕ) (h : A → Option B) → ((a : A) → f a ≤ m → AtMost g n (h a)) → (o : Option A)
    → AtMost f m o → AtMost g n (option_and_then h o)
and_then f g m n h k None x = tt
and_then f g m n h k (Some a) x = k a x

itself : (o : Option Num) → AtMost (λ x. whole_weight (Some x)) (whole_weight o) o
itself None = tt
itself (Some x) = omega arith

fewer : {A : Type 0} (f : A → ℕ) (m n : ℕ) (o : Option A) → AtMost f m o → m ≤ n → AtMost f n o
fewer f m n None h le = tt
fewer f m n (Some a) h le = omega arith

mutual
  of_json_weight : (j : json.Json) → AtMost data_weight (json_weight j) (of_json j)
  of_json_weight (json.number s) =
      mapped (λ x. whole_weight (Some x)) data_weight (whole_weight (number_of s)) _ values.number (λ x h. h) (number_of s)
      (itself (number_of s))
  of_json_weight (json.array js) =
      mapped (list_weight false) data_weight (items_weight false js) _ values.array (λ x h. omega arith) _ (of_items_weight false js)
  of_json_weight (json.object ms) =
      mapped total data_weight (json_total ms) _ values.object (λ x h. let p = json_first ms in
      omega (arith, first_total x (members_weight false ms) (omega (arith, p.0)) p.1)) _
      (fewer total (0 + json_total ms) (json_total ms) _ (of_members_weight ms no_members 0 (omega arith)) (omega arith))
  of_json_weight j = omega arith

  of_items_weight : (later : Bool) (js : json.Items) → AtMost (list_weight later) (items_weight later js) (of_items js)
  of_items_weight later json.no_items = omega arith
  of_items_weight later (json.item j js) =
      and_then data_weight (list_weight later) (json_weight j) _ _
      (λ d h. mapped (list_weight true) (list_weight later) (items_weight true js) _ (item d) (λ ds k. omega arith) _
      (of_items_weight true js)) _ (of_json_weight j)

  of_members_weight : (ms : json.Members) (found : Members) (n : ℕ) → total found ≤ n
      → AtMost total (n + json_total ms) (of_members ms found)
  of_members_weight json.no_members found n h = omega arith
  of_members_weight (json.member k j ms) found n h =
      and_then data_weight total (json_weight j) _ _
      (λ d x. fewer total (n + (length (escape k) + 4 + json_weight j) + json_total ms) _ _
      (of_members_weight ms (put k d found) (n + (length (escape k) + 4 + json_weight j)) (omega (arith, put_total k d found)))
      (omega arith)) _ (of_json_weight j)

-- ---- its text takes just that

pub quoted_long : (s : List ℕ) → length (quoted s) ≡ length (escape s) + 2
quoted_long s = omega (arith, length-append (escape s) (34 ∷ []))

boolean_long : (b : Bool) → length (compact_text (values.boolean b)) ≡ token_weight (boolean b)
boolean_long true = refl
boolean_long false = refl

number_long : (x : Num) → IsWhole x → length (compact_text (values.number x)) ≡ whole_weight (Some x)
number_long (unsigned n) h = refl
number_long (negative z) h = absurd h
number_long (float x) h = absurd h

comma_long : (b : Bool) → length (comma_if b) ≡ one_if b
comma_long true = refl
comma_long false = refl

-- its numbers are whole
abbrev mutual
  pub AreWhole : Data → Type 0
  AreWhole (values.number x) = IsWhole x
  AreWhole (values.array ds) = ItemsAreWhole ds
  AreWhole (values.object ms) = MembersAreWhole ms
  AreWhole d = ⊤

  ItemsAreWhole : Items → Type 0
  ItemsAreWhole no_items = ⊤
  ItemsAreWhole (item d ds) = AreWhole d × ItemsAreWhole ds

  MembersAreWhole : Members → Type 0
  MembersAreWhole no_members = ⊤
  MembersAreWhole (member k d ms) = AreWhole d × MembersAreWhole ms

mutual
  pub shown_whole : (d : Data) → IsShown d → AreWhole d
  shown_whole (values.number x) h = h
  shown_whole (values.array ds) h = shown_items ds h
  shown_whole (values.object ms) h = shown_members ms h
  shown_whole d h = tt

  shown_items : (ds : Items) → ItemsAreShown ds → ItemsAreWhole ds
  shown_items no_items h = tt
  shown_items (item d ds) h = (shown_whole d h.0, shown_items ds h.1)

  shown_members : (ms : Members) → MembersAreShown ms → MembersAreWhole ms
  shown_members no_members h = tt
  shown_members (member k d ms) h = (shown_whole d h.1, shown_members ms h.2)

mutual
  text_long : (d : Data) → AreWhole d → length (compact_text d) ≡ data_weight d
  text_long values.null h = refl
  text_long (values.boolean b) h = boolean_long b
  text_long (values.number x) h = number_long x h
  text_long (values.string s) h = quoted_long s
  text_long (values.array ds) h = omega (arith, items_long false ds h)
  text_long (values.object ms) h = omega (arith, members_long false ms h)

  items_long : (later : Bool) (ds : Items) → ItemsAreWhole ds → length (items_text later ds) ≡ list_weight later ds
  items_long later no_items h = refl
  items_long later (item d ds) h =
      omega (
        arith,
        length-append (comma_if later) (compact_text d ++ items_text true ds),
        length-append (compact_text d) (items_text true ds),
        comma_long later,
        text_long d h.0,
        items_long true ds h.1,
      )

  members_long : (later : Bool) (ms : Members) → MembersAreWhole ms → length (members_text later ms) ≡ object_weight later ms
  members_long later no_members h = refl
  members_long later (member k d ms) h =
      let rest = compact_text d ++ members_text true ms in
      omega (
        arith,
        length-append (comma_if later) (quoted k ++ 58 ∷ rest),
        length-append (quoted k) (58 ∷ rest),
        length-append (compact_text d) (members_text true ms),
        comma_long later,
        quoted_long k,
        text_long d h.0,
        members_long true ms h.1,
      )

-- ---- the whole

some_weight : {A : Type 0} (f : A → ℕ) (n : ℕ) (o : Option A) (a : A) → o ≡ Some a → AtMost f n o → f a ≤ n
some_weight f n o a e h = subst (AtMost f n) e h

tree_of : (o : Option (json.Json × List Token)) (d : Data)
    → option_and_then of_json (option_and_then (λ p. json.if_last p.0 p.1) o) ≡ Some d → (j : json.Json) × (o ≡ Some (j, []))
    × (of_json j ≡ Some d)
tree_of None d e = absurd (cc)
tree_of (Some (j, [])) d e = (j, refl, e)
tree_of (Some (j, t ∷ r)) d e = absurd (cc)

pub no_longer : (text : List ℕ) (d : Data) → read text ≡ Some d → AreWhole d → length (compact_text d) ≤ length text
no_longer text d e h =
    let tree = tree_of (json.value max_depth (tokens text)) d e in
    let spelled : tokens text ≡ json_tokens tree.0 ++ [] = value-json_tokens_back max_depth (tokens text) [] tree.0 tree.1 in
    omega (
      arith,
      text_long d h,
      some_weight data_weight (json_weight tree.0) (of_json tree.0) d tree.2 (of_json_weight tree.0),
      json_cost false tree.0 [],
      ap (cost false) spelled,
      fresh_cost (lex between text),
      between_fits text,
    )
