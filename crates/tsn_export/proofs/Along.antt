-- Each entry is what the configuration has at its key, and those of a kind stand in the order of its numbers.
use Rattle.std.proofs.Common.{◌≡◌, ℕ, arith, true, false, cond, ◌&&◌, not, List, [], ◌∷◌, ◌++◌, map, refl, sym, ◌∙◌, ap, Some}
use Rattle.std.specs.Prelude.{filter}
use Rattle.std.specs.FinMap.{entries, entries_sorted, find, get, get-entries, is_sorted}
use Rattle.std.specs.FinMap.Entries.{below_all}
use Rattle.std.specs.List.{AllByRecursion, flat_map}
use Rattle.std.specs.Ordering.{is_lt}
use Rattle.std.proofs.lemmas.Bool.{and_parts}
use Rattle.std.proofs.lemmas.Cmp.{tied_itself}
use Rattle.tsn_table.proofs.Orders.{of_T}
use Rattle.tsn_types.specs.declared.keys.Key.{Key}
use Rattle.tsn_types.specs.declared.keys.Kind.{Kind}
use Rattle.tsn_types.specs.declared.records.Record.{Record}
use Rattle.tsn_types.specs.Keys.{key_cmp, kind, number_of, same_key}
use Rattle.tsn_edit.specs.Configuration.{Configuration}
use Rattle.tsn_edit.proofs.KeyFacts.{by_bool, keys_total, one_key, same_itself}
use Rattle.tsn_config.specs.Ids.{ids_of, is_of, key_by}
use Rattle.tsn_export.specs.Going.{Entries, entry_text, of_kind, text_of}
use Rattle.tsn_export.specs.Text.{is_default, named_of, table_text}

-- ---- each entry is found at its key

-- a key above another is not the same
pub above_other : (k q : Key) → is_lt (key_cmp k q) ≡ true → same_key q k ≡ false
above_other k q less = by_bool (same_key q k)
    (λ same. let never : is_lt (key_cmp k k) ≡ true = ap (λ x. is_lt (key_cmp k x)) (sym (one_key q k same)) ∙ less in
    let tied = ap is_lt (tied_itself keys_total k) in absurd (cc))
    (λ other. other)

-- what is found among the entries behind one that is below them all is found with it too
behind : (e : Key × Record) (es : Entries) (all : Entries)
    → below_all key_cmp e.0 es ≡ true → AllByRecursion (λ x. find key_cmp x.0 all ≡ Some x.1) es
    → AllByRecursion (λ x. find key_cmp x.0 (e ∷ all) ≡ Some x.1) es
behind e [] all below found = tt
behind e (x ∷ es) all below found = (
  ap (λ b. cond b (Some e.1) (find key_cmp x.0 all)) (above_other e.0 x.0 ((and_parts _ _ below).0)) ∙ found.0,
  behind e es all ((and_parts (is_lt (key_cmp e.0 x.0)) _ below).1) found.1,
)

each_found : (es : Entries) → is_sorted key_cmp es ≡ true → AllByRecursion (λ x. find key_cmp x.0 es ≡ Some x.1) es
each_found [] sorted = tt
each_found (e ∷ es) sorted = (
  ap (λ b. cond b (Some e.1) (find key_cmp e.0 es)) (same_itself e.0),
  behind e es es ((and_parts _ _ sorted).0) (each_found es ((and_parts (below_all key_cmp e.0 es) _ sorted).1)),
)

pub each_moved : (P Q : Key × Record → Type 0) → ((e : Key × Record) → P e → Q e) → (es : Entries) → AllByRecursion P es
    → AllByRecursion Q es
each_moved P Q move [] each = tt
each_moved P Q move (e ∷ es) each = (move e each.0, each_moved P Q move es each.1)

pub each_stands : (c : Configuration) → AllByRecursion (λ e. get c e.0 ≡ Some e.1) (entries c)
each_stands c = each_moved (λ e. find key_cmp e.0 (entries c) ≡ Some e.1) (λ e. get c e.0 ≡ Some e.1)
    (λ e found. get-entries c e.0 ∙ found) (entries c) (each_found (entries c) (of_T _ (entries_sorted c)))

-- ---- the texts of the entries of a kind, by their numbers

-- the text of what there is at a number
abbrev pub text_at : (Key × Record → List ℕ) → Configuration → Kind → ℕ → List ℕ
text_at text c kind n = text_of text (key_by kind n) (get c (key_by kind n))

-- a key is the one that its number has
keyed_by : (kind : Kind) (k : Key) → is_of kind k ≡ true → key_by kind (number_of k) ≡ k
keyed_by kind k is = grind arith

by_numbers : (text : Key × Record → List ℕ) (kind : Kind) (c : Configuration) (es : Entries)
    → AllByRecursion (λ e. get c e.0 ≡ Some e.1) es
    → flat_map (text_at text c kind) (map (λ k. number_of k) (filter (λ k. is_of kind k) (map (λ e. e.0) es)))
    ≡ flat_map text (of_kind kind es)
by_numbers text kind c [] each = refl
by_numbers text kind c (e ∷ es) each = grind (arith, keyed_by, (by_numbers text kind c es each.1))

pub texts_of_kind : (text : Key × Record → List ℕ) (kind : Kind) (c : Configuration)
    → flat_map (text_at text c kind) (ids_of kind c) ≡ flat_map text (of_kind kind (entries c))
texts_of_kind text kind c = by_numbers text kind c (entries c) (each_stands c)

texts : (kind : Kind) (es : Entries)
    → flat_map entry_text (of_kind kind es) ≡ flat_map table_text (filter (λ e. is_of kind e.0 && not (is_default e.1)) es)
texts kind [] = refl
texts kind (e ∷ es) = elim (is_of kind e.0) as (λ b. flat_map entry_text (cond b (e ∷ of_kind kind es) (of_kind kind es))
    ≡ flat_map table_text (cond (b && not (is_default e.1)) (e ∷ filter (λ e. is_of kind e.0 && not (is_default e.1)) es)
    (filter (λ e. is_of kind e.0 && not (is_default e.1)) es))) [
      | true ↦ elim (is_default e.1) as (λ b. cond b [] (table_text e) ++ flat_map entry_text (of_kind kind es)
          ≡ flat_map table_text (cond (not b) (e ∷ filter (λ e. is_of kind e.0 && not (is_default e.1)) es)
          (filter (λ e. is_of kind e.0 && not (is_default e.1)) es))) [
            | true ↦ texts kind es
            | false ↦ ap (λ t. table_text e ++ t) (texts kind es)
          ]
      | false ↦ texts kind es
    ]

pub tables_of_kind : (kind : Kind) (c : Configuration)
    → flat_map (text_at entry_text c kind) (ids_of kind c) ≡ flat_map table_text (named_of kind c)
tables_of_kind kind c = texts_of_kind entry_text kind c ∙ texts kind (entries c)
