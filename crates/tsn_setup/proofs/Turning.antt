-- The loops of the plain reader, a turn at a time.
use Rattle.std.proofs.Common.{◌≡◌, ℕ, suc, ◌-◌, ◌<◌, ◌≤◌, List, [], ◌∷◌, ◌++◌, true, false, ◌==◌, length, drop, Some, Result, Ok, Err, refl, sym, ap, subst, ◌∙◌, arith, zero, Bool, cond, Option, None}
use Rattle.std.specs.Prelude.{is_some, unwrap_or}
use Rattle.std.proofs.lemmas.Bool.Decides.{nat_tests}
use Rattle.toml_parser.specs.Lexical.{first, skip_ws, skip_turn, skip_from, skip_blank}
use Rattle.toml_parser.specs.Strings.{recursion_limit}
use Rattle.toml.specs.Data.{Data, table, Items, no_items, item, push_item}
use Rattle.toml.specs.Tables.{Document, value, Nodes, no_nodes, insert, close, put, key_value, define}
use Rattle.toml.specs.Parse.{read_map, after_element, keyval, val, ends_line, expression, line, lines}
use Rattle.toml.proofs.Turns.{items_end, items_more, members_end, members_more, val_table, lines_more}
use Rattle.tsn_records.specs.Answers.{◌>>=◌, each}
use Rattle.tsn_records.specs.declared.unread.Unread.{Unread}
use Rattle.tsn_setup.specs.Toml.{items_list}
use Rattle.tsn_setup.specs.Plain.{Trays, AreOpen, TellsAll, ReadsMember, ReadsTable, Frames, ReadsLines, ReadsEntry, ReadsEntries, TableSoFar, EntriesSoFar}
use Rattle.tsn_setup.proofs.Filling.{inserted, told_after, nothing_yet, put_new, none_yet}

nothing_told : (trays : Trays) → AreOpen trays → TellsAll (close no_nodes) trays
nothing_told trays unread = record { tells = none_yet trays unread; only = refl }

-- ---- inline tables

pub table_begun : (text : List ℕ) (trays : Trays) → AreOpen trays → TableSoFar text trays text
table_begun text trays unread = record {
  found = no_nodes;
  reads = λ m n room. (n, (room, refl));
  tells = nothing_told trays unread;
}

pub table_ended : (text : List ℕ) (trays : Trays) (rest : List ℕ) → TableSoFar text trays rest → (first (skip_blank rest) == 125) ≡ true
    → ReadsTable text trays (drop 1 (skip_blank rest))
table_ended text trays rest so ends = record {
  found = close so.found;
  reads = λ m n room.
      let (k, more) = so.reads m n room in
      more.1 ∙ members_end (val m) k so.found rest (omega (arith, more.0)) ends;
  tells = so.tells;
}

pub table_more : (text : List ℕ) (trays later : Trays) (rest after next : List ℕ) → TableSoFar text trays rest
    → (first (skip_blank rest) == 125) ≡ false → ReadsMember 0 (skip_blank rest) trays later after
    → after_element 125 after ≡ Some next → length next < length rest → TableSoFar text later next
table_more text trays later rest after next so goes member element shorter =
    let none = nothing_yet trays member.name member.tray (close so.found) member.known member.empty so.tells.tells in
    record {
      found = insert member.name (value member.value) so.found;
      reads = λ m n room.
          let (k, more) = so.reads m n room in
          let step = members_more (val m) k so.found _ rest ([], member.name) member.value after next (omega (arith, more.0)) goes
          (member.reads m (omega arith)) (put_new member.name member.value so.found none) element in
          (k - 1, (omega (arith, more.0, shorter), more.1 ∙ step));
      tells =
          let told = told_after trays member.name member.tray member.filled member.value (close so.found) _
          (inserted member.name (value member.value) so.found) member.known member.full so.tells in
          subst (TellsAll (close (insert member.name (value member.value) so.found))) (sym member.put) told;
    }

-- ---- lines of a table

pub lines_begun : (text : List ℕ) (trays : Trays) → AreOpen trays → ReadsLines text trays text
lines_begun text trays unread = record {
  found = no_nodes;
  leads = λ path frame frames n room. record { turns = n; room = room; same = refl };
  tells = nothing_told trays unread;
}

pair_line : (n : ℕ) (start name after : List ℕ) (d : Data) → n ≤ 80 → (first start == 91) ≡ false
    → ((m : ℕ) → n ≤ m → keyval (val m) start ≡ Some ((([], name), d), after)) → ends_line (skip_ws after) ≡ true
    → line start ≡ Some ((([], name), key_value d), after)
unfolding line expression
pair_line n start name after d low goes reads ends = rw (goes, reads recursion_limit low, ends) refl

framed : (path : List (List ℕ)) (frame : Nodes → Nodes) (name : List ℕ) (d : Data) (ns more : Nodes) → Frames path frame
    → put ([], name) d ns ≡ Some more
    → define (frame ns, path) (([], name), key_value d) ≡ Some (frame more, path)
unfolding define
framed path frame name d ns more frames step = rw (frames (put ([], name) d) ns, step) refl

pub line_more : (n : ℕ) (text : List ℕ) (trays later : Trays) (rest after : List ℕ) → n ≤ 80 → ReadsLines text trays rest
    → (length (skip_blank rest) == 0) ≡ false → (first (skip_blank rest) == 91) ≡ false
    → ReadsMember n (skip_blank rest) trays later after → ends_line (skip_ws after) ≡ true → length after < length rest
    → ReadsLines text later after
line_more n text trays later rest after low so some goes member ends shorter =
    let none = nothing_yet trays member.name member.tray (close so.found) member.known member.empty so.tells.tells in
    let this = pair_line n (skip_blank rest) member.name after member.value low goes member.reads ends in
    record {
      found = insert member.name (value member.value) so.found;
      leads = λ path frame frames k room.
          let lead = so.leads path frame frames k room in
          let step = framed path frame member.name member.value so.found _ frames (put_new member.name member.value so.found none) in
          record {
            turns = lead.turns - 1;
            room = omega (arith, lead.room, shorter);
            same = lead.same ∙ lines_more lead.turns (frame so.found, path) _ rest _ after (omega (arith, lead.room)) some this step;
          };
      tells =
          let told = told_after trays member.name member.tray member.filled member.value (close so.found) _
          (inserted member.name (value member.value) so.found) member.known member.full so.tells in
          subst (TellsAll (close (insert member.name (value member.value) so.found))) (sym member.put) told;
    }

-- what ends a run of blanks ends it again
ends_again : (inside : Bool) (c next : ℕ) → skip_turn true inside c next ≡ None → skip_turn true false c next ≡ None
ends_again true c next none = grind (arith, nat_tests)
ends_again false c next none = none

blank_once_at : (o : Option Bool) (inside : Bool) (c : ℕ) (cs : List ℕ) → skip_turn true inside c (first cs) ≡ o
    → ((b : Bool) → skip_from true false (skip_from true b cs) ≡ skip_from true b cs)
    → skip_from true false (cond (is_some o) (skip_from true (unwrap_or o false) cs) (c ∷ cs)) ≡ cond (is_some o)
    (skip_from true (unwrap_or o false) cs) (c ∷ cs)
unfolding skip_from
blank_once_at (Some b) inside c cs is later = later b
blank_once_at None inside c cs is later = rw (ends_again inside c (first cs) is) refl

blank_once_from : (t : List ℕ) (inside : Bool) → skip_from true false (skip_from true inside t) ≡ skip_from true inside t
unfolding skip_from
blank_once_from [] inside = refl
blank_once_from (c ∷ cs) inside = blank_once_at (skip_turn true inside c (first cs)) inside c cs refl (λ b. blank_once_from cs b)

lines_blank : (m : ℕ) (doc : Document) (text : List ℕ) → lines m doc text ≡ lines m doc (skip_blank text)
unfolding lines
lines_blank zero doc text = refl
lines_blank (suc m) doc text = rw (blank_once_from text false) refl

-- the blanks behind the lines are passed, too
pub lines_trimmed : (text : List ℕ) (trays : Trays) (rest : List ℕ) → ReadsLines text trays rest → length (skip_blank rest) ≤ length rest
    → ReadsLines text trays (skip_blank rest)
lines_trimmed text trays rest so within = record {
  found = so.found;
  leads = λ path frame frames n room.
      let lead = so.leads path frame frames n room in
      record {
        turns = lead.turns;
        room = omega (arith, lead.room, within);
        same = lead.same ∙ lines_blank lead.turns (frame so.found, path) rest;
      };
  tells = so.tells;
}

-- ---- entries of a list

pub entries_begun : {E : Type 0} (shape : Data → Result E Unread) (text : List ℕ) → EntriesSoFar shape text [] text
entries_begun shape text = record {
  found = no_items;
  reads = λ m n room. (n, (room, refl));
  shaped = refl;
}

pub entries_ended : {E : Type 0} (shape : Data → Result E Unread) (text : List ℕ) (list : List E) (rest : List ℕ)
    → EntriesSoFar shape text list rest → (first (skip_blank rest) == 93) ≡ true
    → ReadsEntries shape text list (drop 1 (skip_blank rest))
entries_ended shape text list rest so ends = record {
  found = so.found;
  reads = λ m n room.
      let (k, more) = so.reads m n room in
      more.1 ∙ items_end (val (suc m)) k so.found rest (omega (arith, more.0)) ends;
  shaped = so.shaped;
}

first_of : {A B : Type 0} (f : A → Result B Unread) (x : A) (xs : List A) (rest : Result (List B) Unread) (r : Result B Unread)
    (ys : List B) (P : Type 0) → f x ≡ r → (r >>= λ z. rest >>= λ zs. Ok (z ∷ zs)) ≡ Ok ys
    → ((z : B) (zs : List B) → r ≡ Ok z → rest ≡ Ok zs → ys ≡ z ∷ zs → P) → P
first_of f x xs (Ok zs) (Ok z) ys P is h more = more z zs refl refl (let e : Ok (z ∷ zs) ≡ Ok ys = h in cc)
first_of f x xs (Err e) (Ok z) ys P is h more = cc
first_of f x xs rest (Err e) ys P is h more = cc

pub each_last : {A B : Type 0} (f : A → Result B Unread) (xs : List A) (ys : List B) (x : A) (y : B) → each f xs ≡ Ok ys → f x ≡ Ok y
    → each f (xs ++ x ∷ []) ≡ Ok (ys ++ y ∷ [])
each_last f [] ys x y others last = let none : Ok [] ≡ Ok ys = others in rw last (ap (λ zs. Ok (zs ++ y ∷ [])) (let e : [] ≡ ys = cc in e))
each_last f (w ∷ ws) ys x y others last =
    first_of f w ws (each f ws) (f w) ys _ refl others (λ z zs first rest same.
    rw (first, each_last f ws zs x y rest last, same) refl)

pub items_pushed : (found : Items) (d : Data) → items_list (push_item found d) ≡ items_list found ++ d ∷ []
items_pushed no_items d = refl
items_pushed (item e es) d = ap (λ ds. e ∷ ds) (items_pushed es d)

pub entries_more : {E : Type 0} (shape : Data → Result E Unread) (text : List ℕ) (list : List E) (entry : E) (rest after next : List ℕ)
    → EntriesSoFar shape text list rest
    → (first (skip_blank rest) == 93) ≡ false → (first (skip_blank rest) == 91) ≡ false → (first (skip_blank rest) == 123) ≡ true
    → length (drop 1 (skip_blank rest)) < length (skip_blank rest)
    → ReadsEntry shape (drop 1 (skip_blank rest)) entry after → after_element 93 after ≡ Some next → length next < length rest
    → EntriesSoFar shape text (list ++ entry ∷ []) next
entries_more shape text list entry rest after next so goes no_array opens inside read element shorter = record {
  found = push_item so.found (table read.found);
  reads = λ m n room.
      let (k, more) = so.reads m n room in
      let this : val (suc m) (skip_blank rest) ≡ Some (table read.found, after) = val_table m (skip_blank rest) no_array opens
      ∙ ap (read_map table) (read.reads m (length (skip_blank rest)) inside) in (
        k - 1,
        (
          omega (arith, more.0, shorter),
          more.1 ∙ items_more (val (suc m)) k so.found rest (table read.found) after next (omega (arith, more.0)) goes this element,
        ),
      );
  shaped = rw (items_pushed so.found (table read.found))
      (each_last shape (items_list so.found) list (table read.found) entry so.shaped read.shaped);
}
