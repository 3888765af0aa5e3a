-- The records of a kind in a list, and the tables of a kind in a document.
use Rattle.std.proofs.Common.{◌≡◌, List, [], ◌∷◌, ◌++◌, map, Bool, true, false, cond, Option, Some, None, option_map, unwrap_or, Result, Ok, refl, sym, ap, ◌∙◌}
use Rattle.std.specs.List.{AllByRecursion}
use Rattle.toml.specs.Data.{Data, array, Items, no_items, get, as_array}
use Rattle.toml.specs.View.{items_of}
use Rattle.tsn_types.specs.InRange.{KeyedInRange}
use Rattle.tsn_types.specs.Keys.{kind}
use Rattle.tsn_types.specs.declared.keys.Key.{Key}
use Rattle.tsn_types.specs.declared.keys.Key.TheVariants as keys
use Rattle.tsn_types.specs.declared.keys.Kind.{Kind}
use Rattle.tsn_types.specs.declared.keys.Kind.TheVariants as kinds
use Rattle.tsn_types.specs.declared.records.Record.{Record}
use Rattle.tsn_config.specs.Ids.{is_of}
use Rattle.tsn_records.specs.Answers.{each}
use Rattle.tsn_records.specs.Keys.{kind_text}
use Rattle.tsn_records.specs.declared.unread.Unread.{Unread}
use Rattle.tsn_setup.specs.Ranges.{keyed_record}
use Rattle.tsn_setup.specs.Tables.{table_shape, items_given, tables_of_kind}
use Rattle.tsn_setup.specs.Toml.{if_given, items_or_none_at}
use Rattle.tsn_setup.specs.Values.{table_with, tables_of, keyed_rows, of_kind, given_or}
use Rattle.tsn_setup.specs.declared.drafts.TableDraft.{TableDraft}
use Rattle.tsn_setup.proofs.Keyed.{AreRead, tables_read, keyed_draft, tables_shaped}
use Rattle.tsn_setup.proofs.Ordered.{IsOrdered, EachOrdered}
use Rattle.tsn_records.proofs.Steps.{steps, only}
use Rattle.tsn_setup.proofs.Shapes.{inner_ordered, items_or_none_there}

-- ---- records of a kind

abbrev pub InRange : List (Key × Record) → Type 0
InRange es = AllByRecursion (λ e. KeyedInRange e.0 e.1) es

abbrev pub AllOf : Kind → List (Key × Record) → Type 0
AllOf q es = AllByRecursion (λ e. kind e.0 ≡ q) es

its_own : (k : Key) → is_of (kind k) k ≡ true
its_own (keys.Port n) = refl
its_own k = refl

kind_known : (q : Kind) (k : Key) → is_of q k ≡ true → kind k ≡ q
kind_known kinds.Port (keys.Port n) h = refl
kind_known kinds.Filter (keys.Filter n) h = refl
kind_known kinds.Gate (keys.Gate n) h = refl
kind_known kinds.Meter (keys.Meter n) h = refl
kind_known q k h = cc

-- a list of one kind
pub all_of : (q : Kind) (es : List (Key × Record)) → AllOf q es → of_kind q es ≡ es
all_of q [] h = refl
all_of q (e ∷ es) h =
    let here : is_of q e.0 ≡ true = ap (λ p. is_of p e.0) (sym h.0) ∙ its_own e.0 in
    rw (here, all_of q es h.1)

-- a list with none of that kind
abbrev NoneOf : Kind → List (Key × Record) → Type 0
NoneOf q es = AllByRecursion (λ e. is_of q e.0 ≡ false) es

none_of : (q : Kind) (es : List (Key × Record)) → NoneOf q es → of_kind q es ≡ []
none_of q [] h = refl
none_of q (e ∷ es) h = rw (h.0, none_of q es h.1)

all_from : {A : Type 0} (P Q : A → Type 0) (xs : List A) → ((x : A) → P x → Q x) → AllByRecursion P xs → AllByRecursion Q xs
all_from P Q [] more h = tt
all_from P Q (x ∷ xs) more h = (more x h.0, all_from P Q xs more h.1)

-- the kind of a key tells which kinds it is not of
abbrev pub same_kind : Kind → Kind → Bool
same_kind kinds.Port kinds.Port = true
same_kind kinds.Filter kinds.Filter = true
same_kind kinds.Gate kinds.Gate = true
same_kind kinds.Meter kinds.Meter = true
same_kind q p = false

is_of_kind : (q : Kind) (k : Key) → is_of q k ≡ same_kind q (kind k)
is_of_kind kinds.Port (keys.Port n) = refl
is_of_kind kinds.Filter (keys.Filter n) = refl
is_of_kind kinds.Gate (keys.Gate n) = refl
is_of_kind kinds.Meter (keys.Meter n) = refl
is_of_kind q k = refl

others : (q p : Kind) (es : List (Key × Record)) → same_kind q p ≡ false → AllOf p es → of_kind q es ≡ []
others q p es apart h =
    none_of q es (all_from (λ e. kind e.0 ≡ p) (λ e. is_of q e.0 ≡ false) es (λ e is. is_of_kind q e.0 ∙ ap (same_kind q) is ∙ apart) h)

-- of a list of one kind, that kind has all and any other none
pub picked : (q p : Kind) (es : List (Key × Record)) → AllOf p es → of_kind q es ≡ cond (same_kind q p) es []
picked kinds.Port kinds.Port es h = all_of kinds.Port es h
picked kinds.Filter kinds.Filter es h = all_of kinds.Filter es h
picked kinds.Gate kinds.Gate es h = all_of kinds.Gate es h
picked kinds.Meter kinds.Meter es h = all_of kinds.Meter es h
picked q p es h = others q p es refl h

joined_at : (b : Bool) (e : Key × Record) (xs ys : List (Key × Record)) → cond b (e ∷ (xs ++ ys)) (xs ++ ys) ≡ cond b (e ∷ xs) xs ++ ys
joined_at true e xs ys = refl
joined_at false e xs ys = refl

pub of_joined : (q : Kind) (xs ys : List (Key × Record)) → of_kind q (xs ++ ys) ≡ of_kind q xs ++ of_kind q ys
of_joined q [] ys = refl
of_joined q (x ∷ xs) ys =
    ap (λ l. cond (is_of q x.0) (x ∷ l) l) (of_joined q xs ys) ∙ joined_at (is_of q x.0) x (of_kind q xs) (of_kind q ys)

kept_at : {A : Type 0} (P : A → Type 0) (b : Bool) (x : A) (xs : List A) → (b ≡ true → P x) → AllByRecursion P xs
    → AllByRecursion P (cond b (x ∷ xs) xs)
kept_at P true x xs here h = (here refl, h)
kept_at P false x xs here h = h

pub of_kind_in_range : (q : Kind) (es : List (Key × Record)) → InRange es → InRange (of_kind q es)
of_kind_in_range q [] h = tt
of_kind_in_range q (e ∷ es) h = kept_at (λ x. KeyedInRange x.0 x.1) (is_of q e.0) e (of_kind q es) (λ _. h.0) (of_kind_in_range q es h.1)

pub of_kind_of : (q : Kind) (es : List (Key × Record)) → AllOf q (of_kind q es)
of_kind_of q [] = tt
of_kind_of q (e ∷ es) = kept_at (λ x. kind x.0 ≡ q) (is_of q e.0) e (of_kind q es) (λ is. kind_known q e.0 is) (of_kind_of q es)

-- ---- tables of a kind

-- what a document has of a kind: the tables of these records, in range
pub record KindThere (q : Kind) (d : Data) (es : List (Key × Record)) : Type 0 where
  pub value : given_or (array no_items) (kind_text q) d ≡ tables_of keyed_rows es
  pub ranges : InRange es
  pub kinds_are : AllOf q es

items_known : (q : Kind) (d : Data) (o : Option Items) (es : List (Key × Record)) → get (kind_text q) d ≡ option_map array o
    → ((ds : Items) → o ≡ Some ds → EachOrdered ds)
    → (ts : List TableDraft) → each (table_shape q) (items_given o) ≡ Ok ts → each keyed_record ts ≡ Ok es → KindThere q d es
items_known q d None es there ordered ts shapes ranges =
    let read : AreRead q no_items es = tables_read q no_items ts es tt shapes ranges in
    record {
      value = ap (λ (x : Option Data). unwrap_or x (array no_items)) there ∙ read.value;
      ranges = read.ranges;
      kinds_are = read.kinds_are;
    }
items_known q d (Some ds) es there ordered ts shapes ranges =
    let read : AreRead q ds es = tables_read q ds ts es (ordered ds refl) shapes ranges in
    record {
      value = ap (λ (x : Option Data). unwrap_or x (array no_items)) there ∙ read.value;
      ranges = read.ranges;
      kinds_are = read.kinds_are;
    }

pub kind_there : (q : Kind) (d : Data) (ts : List TableDraft) (es : List (Key × Record)) → IsOrdered d → tables_of_kind q d ≡ Ok ts
    → each keyed_record ts ≡ Ok es → KindThere q d es
unfolding tables_of_kind
kind_there q d ts es ordered shapes ranges =
    steps (items_or_none_at (kind_text q) d) _ ts shapes (λ o o_is o_next.
    let there = items_or_none_there (get (kind_text q) d) o o_is in
    items_known q d o es there (λ ds is. inner_ordered (kind_text q) d (array ds) ordered (there ∙ ap (option_map array) is)) ts o_next
    ranges)

abbrev KindRead : Kind → Data → List (Key × Record) → Type 0
KindRead q d es = tables_of_kind q d ≡ Ok (map keyed_draft es)

kind_from : (q : Kind) (d : Data) (o : Option Items) (es : List (Key × Record)) → items_or_none_at (kind_text q) d ≡ Ok o
    → each (table_shape q) (items_given o) ≡ Ok (map keyed_draft es) → KindRead q d es
unfolding tables_of_kind
kind_from q d o es found shapes = rw (found, shapes)

kind_read_at : (q : Kind) (d : Data) (o : Option Data) (es : List (Key × Record)) → get (kind_text q) d ≡ o
    → unwrap_or o (array no_items) ≡ tables_of keyed_rows es → InRange es → AllOf q es → KindRead q d es
kind_read_at q d None [] is value fits are = kind_from q d None [] (ap (if_given as_array) is) refl
kind_read_at q d None (e ∷ es) is value fits are = cc
kind_read_at q d (Some x) es is value fits are =
    let ds : Items = items_of (map (λ (e : Key × Record). table_with (keyed_rows e)) es) in
    kind_from q d (Some ds) es (ap (if_given as_array) (is ∙ ap Some value)) (tables_shaped q es fits are)

pub kind_read : (q : Kind) (d : Data) (es : List (Key × Record)) → given_or (array no_items) (kind_text q) d ≡ tables_of keyed_rows es
    → InRange es → AllOf q es → KindRead q d es
kind_read q d es value fits are = kind_read_at q d (get (kind_text q) d) es refl value fits are

-- ---- answers of all

pub each_split : {A B P : Type 0} (f : A → Result B Unread) (xs ys : List A) (es : List B) → each f (xs ++ ys) ≡ Ok es
    → ((front back : List B) → each f xs ≡ Ok front → each f ys ≡ Ok back → front ++ back ≡ es → P) → P
each_split f [] ys es h next = next [] es refl h refl
each_split {A} {B} f (x ∷ xs) ys es h next =
    steps (f x) _ es h (λ y y_is y_next.
    steps (each f (xs ++ ys)) _ es y_next (λ rest rest_is rest_next.
    each_split f xs ys rest rest_is (λ front back front_is back_is same.
    let whole : each f (x ∷ xs) ≡ Ok (y ∷ front) = rw (y_is, front_is) in
    next (y ∷ front) back whole back_is (ap (λ (l : List B). y ∷ l) same ∙ only (Ok (y ∷ rest)) (y ∷ rest) es refl rest_next))))

-- drafts of records in range pass, all in their order
pub drafts_joined : (xs ys : List (Key × Record)) → map keyed_draft (xs ++ ys) ≡ map keyed_draft xs ++ map keyed_draft ys
drafts_joined [] ys = refl
drafts_joined (x ∷ xs) ys = ap (λ l. keyed_draft x ∷ l) (drafts_joined xs ys)
