-- The lexemes of entries and of lists of them.
use Rattle.std.proofs.Common.{◌≡◌, ℕ, ◌+◌, ◌≤◌, List, [], ◌∷◌, ◌++◌, map, Bool, true, false, Option, Some, None, option_map, option_and_then, refl, sym, ap, ◌∙◌, arith, append_assoc}
use Rattle.json.specs.Json as json
use Rattle.json.specs.Lex.{Lexeme, token, comma}
use Rattle.json.specs.Token.{Token}
use Rattle.json.specs.Tree.{depth, items_depth}
use Rattle.serde_json.specs.Data.{Data, boolean, Items, no_items, item}
use Rattle.serde_json.specs.Read.{of_json, of_items}
use Rattle.serde_json.specs.View.{items_of}
use Rattle.tsn_records.specs.Shown.{whole_data, or_null, port_entry_array, gate_entry_array, list_array}
use Rattle.tsn_wire.specs.Lexed.{comma_if, value_lexemes, items_lexemes, ReadsValue}

pub port_entry_read : (gates interval : ℕ) (t0 t1 t2 t3 t4 t5 : List Lexeme)
    → t0 ≡ token Token.begin_array ∷ t1 → ReadsValue 0 t1 (whole_data gates) t2 → t2 ≡ comma ∷ t3 → ReadsValue 0 t3 (whole_data interval) t4
    → t4 ≡ token Token.end_array ∷ t5
    → ReadsValue 1 t0 (port_entry_array gates interval) t5
port_entry_read gates interval t0 t1 t2 t3 t4 t5 e0 (j, is_j, same_j, low_j) e2 (k, is_k, same_k, low_k) e4 = (
  json.array (json.item j (json.item k json.no_items)),
  rw (e0, is_j, e2, is_k, e4) (simp append_assoc),
  rw (same_j, same_k) refl,
  omega (arith, low_j, low_k),
)

pub gate_entry_read : (is_open : Bool) (ipv : Option ℕ) (interval : ℕ) (octets : Option ℕ) (t0 t1 t2 t3 t4 t5 t6 t7 t8 t9 : List Lexeme)
    → t0 ≡ token Token.begin_array ∷ t1 → ReadsValue 0 t1 (boolean is_open) t2 → t2 ≡ comma ∷ t3 → ReadsValue 0 t3 (or_null ipv) t4
    → t4 ≡ comma ∷ t5
    → ReadsValue 0 t5 (whole_data interval) t6 → t6 ≡ comma ∷ t7 → ReadsValue 0 t7 (or_null octets) t8 → t8 ≡ token Token.end_array ∷ t9
    → ReadsValue 1 t0 (gate_entry_array is_open ipv interval octets) t9
gate_entry_read is_open ipv interval octets t0 t1 t2 t3 t4 t5 t6 t7 t8 t9 e0 (i, is_i, same_i, low_i) e2 (j, is_j, same_j, low_j)
    e4 (k, is_k, same_k, low_k) e6 (l, is_l, same_l, low_l) e8 = (
      json.array (json.item i (json.item j (json.item k (json.item l json.no_items)))),
      rw (e0, is_i, e2, is_j, e4, is_k, e6, is_l, e8) (simp append_assoc),
      rw (same_i, same_j, same_k, same_l) refl,
      omega (arith, low_i, low_j, low_k, low_l),
    )

-- ---- one item more

abbrev push : json.Items → json.Json → json.Items
push json.no_items j = json.item j json.no_items
push (json.item i js) j = json.item i (push js j)

-- these items, each with a comma behind it
abbrev so_far : json.Items → List Lexeme
so_far json.no_items = []
so_far (json.item i js) = value_lexemes i ++ comma ∷ so_far js

so_far_push : (js : json.Items) (j : json.Json) (rest : List Lexeme)
    → so_far (push js j) ++ rest ≡ so_far js ++ (value_lexemes j ++ comma ∷ rest)
so_far_push json.no_items j rest = append_assoc (value_lexemes j) (comma ∷ []) rest
so_far_push (json.item i js) j rest =
    append_assoc (value_lexemes i) (comma ∷ so_far (push js j)) rest ∙ ap (λ x. value_lexemes i ++ comma ∷ x) (so_far_push js j rest)
    ∙ sym (append_assoc (value_lexemes i) (comma ∷ so_far js) _)

-- the last item, and the bracket
closed : (later : Bool) (js : json.Items) (j : json.Json) (rest : List Lexeme)
    → items_lexemes later (push js j) ++ rest ≡ comma_if later ++ (so_far js ++ (value_lexemes j ++ token Token.end_array ∷ rest))
closed later json.no_items j rest = simp append_assoc
closed later (json.item i js) j rest =
    append_assoc (comma_if later) _ rest
    ∙ ap (λ x. comma_if later ++ x)
    (append_assoc (value_lexemes i) (items_lexemes true (push js j)) rest ∙ ap (λ x. value_lexemes i ++ x) (closed true js j rest)
    ∙ sym (append_assoc (value_lexemes i) (comma ∷ so_far js) _))

-- values, and one more behind them
abbrev add : Items → Data → Items
add no_items d = item d no_items
add (item e ds) d = item e (add ds d)

read_push_at : (o : Option Data) (p q : Option Items) (xs : Items) (d : Data) → ((ys : Items) → p ≡ Some ys → q ≡ Some (add ys d))
    → option_and_then (λ e. option_map (item e) p) o ≡ Some xs → option_and_then (λ e. option_map (item e) q) o ≡ Some (add xs d)
read_push_at None p q xs d later is = absurd (cc)
read_push_at (Some e) None q xs d later is = absurd (cc)
read_push_at (Some e) (Some ys) q xs d later is = rw (later ys refl) (ap (option_map (λ zs. add zs d)) is)

read_push : (js : json.Items) (j : json.Json) (xs : Items) (d : Data) → of_json j ≡ Some d → of_items js ≡ Some xs
    → of_items (push js j) ≡ Some (add xs d)
read_push json.no_items j xs d value is = rw value (ap (option_map (λ zs. add zs d)) is)
read_push (json.item i js) j xs d value is =
    read_push_at (of_json i) (of_items js) (of_items (push js j)) xs d (λ ys h. read_push js j ys d value h) is

add_entry : {E : Type 0} (value : E → Data) (es : List E) (e : E)
    → add (items_of (map value es)) (value e) ≡ items_of (map value (es ++ e ∷ []))
add_entry value [] e = refl
add_entry value (x ∷ es) e = ap (item (value x)) (add_entry value es e)

shallow_push : (n : ℕ) (js : json.Items) (j : json.Json) → items_depth js ≤ n → depth j ≤ n → items_depth (push js j) ≤ n
shallow_push n json.no_items j low here = omega (arith, here)
shallow_push n (json.item i js) j low here = let rest = shallow_push n js j (omega (arith, low)) here in omega (arith, low, rest)

-- The text behind the opening bracket is these entries' values, each with its comma, and the rest.
pub record Lists {E : Type 0} (n : ℕ) (value : E → Data) (start : List Lexeme) (es : List E) (rest : List Lexeme) : Type 0 where
  pub items : json.Items
  pub lexemes : start ≡ so_far items ++ rest
  pub reads : of_items items ≡ Some (items_of (map value es))
  pub shallow : items_depth items ≤ n

pub no_entry : {E : Type 0} (n : ℕ) (value : E → Data) (start now : List Lexeme) (es : List E) → es ≡ [] → now ≡ start
    → Lists n value start es now
no_entry n value start now es none same =
    record { items = json.no_items; lexemes = sym same; reads = ap (λ l. Some (items_of (map value l))) (sym none); shallow = omega arith }

pub one_more : {E : Type 0} (n : ℕ) (value : E → Data) (start now behind rest : List Lexeme) (es : List E) (e : E)
    → Lists n value start es now → ReadsValue n now (value e) behind → behind ≡ comma ∷ rest → Lists n value start (es ++ e ∷ []) rest
one_more n value start now behind rest es e l (j, is, same, low) next = record {
  items = push l.items j;
  lexemes = l.lexemes ∙ ap (λ x. so_far l.items ++ x) (is ∙ ap (λ x. value_lexemes j ++ x) next) ∙ sym (so_far_push l.items j rest);
  reads = read_push l.items j (items_of (map value es)) (value e) same l.reads ∙ ap Some (add_entry value es e);
  shallow = shallow_push n l.items j l.shallow low;
}

pub all_listed : {E : Type 0} (n : ℕ) (value : E → Data) (text start now behind rest : List Lexeme) (es : List E) (e : E)
    → text ≡ token Token.begin_array ∷ start → Lists n value start es now → ReadsValue n now (value e) behind
    → behind ≡ token Token.end_array ∷ rest
    → ReadsValue (n + 1) text (list_array value (es ++ e ∷ [])) rest
all_listed n value text start now behind rest es e begin l (j, is, same, low) next =
    let shallow = shallow_push n l.items j l.shallow low in (
      json.array (push l.items j),
      begin ∙ ap (λ x. token Token.begin_array ∷ x)
          (l.lexemes ∙ ap (λ x. so_far l.items ++ x) (is ∙ ap (λ x. value_lexemes j ++ x) next) ∙ sym (closed false l.items j rest)),
      rw (read_push l.items j (items_of (map value es)) (value e) same l.reads ∙ ap Some (add_entry value es e)) refl,
      omega (arith, shallow),
    )

pub none_listed : {E : Type 0} (n : ℕ) (value : E → Data) (text start rest : List Lexeme) (es : List E) → es ≡ []
    → text ≡ token Token.begin_array ∷ start → start ≡ token Token.end_array ∷ rest → ReadsValue (n + 1) text (list_array value es) rest
none_listed n value text start rest es none begin next =
    (json.array json.no_items, begin ∙ ap (λ x. token Token.begin_array ∷ x) next, rw none refl, omega arith)
