-- The members of an object are gathered, one after another.
use Rattle.std.proofs.Common.{◌≡◌, ℕ, ◌+◌, ◌≤◌, suc, List, [], ◌∷◌, ◌++◌, Bool, true, false, Option, Some, None, IfSome, option_map, option_and_then, refl, sym, ap, subst, ◌∙◌, arith, append_assoc}
use Rattle.std.specs.Prelude.{if◌then◌else◌}
use Rattle.std.specs.Ordering.{match_ordering}
use Rattle.std.specs.Str.{bytes_eq}
use Rattle.std.proofs.lemmas.Slice.Eq.{bytes_eq-Decides}
use Rattle.json.specs.Json as json
use Rattle.json.specs.Lex.{Lexeme, token, comma, colon}
use Rattle.json.specs.Token.{Token}
use Rattle.json.specs.Tree.{depth, members_depth}
use Rattle.serde_json.specs.Data.{Data, object, Members, no_members, member, put}
use Rattle.serde_json.specs.Find.{get_member}
use Rattle.serde_json.specs.Read.{of_json, of_members}
use Rattle.tsn_records.specs.Json.{members_len}
use Rattle.tsn_records.specs.Shown.{draft_data}
use Rattle.tsn_records.specs.declared.drafts.RecordDraft.{RecordDraft}
use Rattle.tsn_records.specs.declared.drafts.RecordDraft.TheVariants as records
use Rattle.tsn_wire.specs.Lexed.{comma_if, value_lexemes, members_lexemes, ReadsValue}
use Rattle.tsn_wire.specs.Members.{Rows, row_at, put_row, Tells, AreOpen, Fills, ReadsMember, ReadsMembers}
use Rattle.tsn_wire.specs.Rows.{AllTold, members_of}
use Rattle.tsn_wire.specs.Lines.{IsEdit}
use Rattle.tsn_wire.specs.declared.drafts.EditDraft.{EditDraft}
use Rattle.tsn_wire.specs.declared.drafts.EditDraft.TheVariants as edits
use Rattle.tsn_wire.specs.Spelled.{edit_value}
use Rattle.tsn_wire.proofs.FromShapes.{record_rises}
use Rattle.tsn_records.proofs.NameOrder.{at_order, order, same_name, same_order}
use Rattle.tsn_wire.proofs.Objects.{Holds, Rise, IsOrdered, of_json_ordered, only_these}
use Rattle.tsn_wire.proofs.Scanning.{deeper}

-- ---- what stands at a name once another member was put

-- a name that differs is passed over
differ : {A : Type 0} (l m : List ℕ) (a b : A) → (l ≡ m → ⊥) → match_ordering (order l m) a b a ≡ a
differ l m a b other =
    at_order (λ x. x ≡ a) (order l m) a b a (λ _. refl) (λ is. absurd (other (same_name l m is))) (λ _. refl)

get_same : (k : List ℕ) (d : Data) (ms : Members) → get_member k (put k d ms) ≡ Some d
get_same k d no_members = rw (same_order k) refl
get_same k d (member m e ms) =
    at_order (λ found. get_member k found ≡ Some d) (order k m) (member k d (member m e ms)) (member m d ms) (member m e (put k d ms))
    (λ _. rw (same_order k) refl) (λ is. rw is refl) (λ is. rw is (get_same k d ms))

get_other : (l k : List ℕ) (d : Data) (ms : Members) → (l ≡ k → ⊥) → get_member l (put k d ms) ≡ get_member l ms
get_other l k d no_members other = differ l k None (Some d) other
get_other l k d (member m e ms) other =
    at_order (λ found. get_member l found ≡ get_member l (member m e ms)) (order k m)
    (member k d (member m e ms)) (member m d ms) (member m e (put k d ms))
    (λ _. differ l k (get_member l (member m e ms)) (Some d) other)
    (λ is. let apart : l ≡ m → ⊥ = λ same. other (same ∙ sym (same_name k m is)) in
    differ l m (get_member l ms) (Some d) apart ∙ sym (differ l m (get_member l ms) (Some e) apart))
    (λ _. ap (λ o. match_ordering (order l m) o (Some e) o) (get_other l k d ms other))

-- a new name is one member more
len_put : (k : List ℕ) (d : Data) (ms : Members) → get_member k ms ≡ None → members_len (put k d ms) ≡ suc (members_len ms)
len_put k d no_members none = refl
len_put k d (member m e ms) none =
    at_order (λ found. members_len found ≡ suc (suc (members_len ms))) (order k m)
    (member k d (member m e ms)) (member m d ms) (member m e (put k d ms)) (λ _. refl)
    (λ is. let never : Some e ≡ None = rw is at none in absurd (cc)) (λ is. ap suc (len_put k d ms (rw is at none)))

-- ---- rows

put_told : (b : Bool) (k l : List ℕ) (d : Data) (o : Option Data) (ms : Members) → bytes_eq k l ≡ b → get_member l ms ≡ o
    → get_member l (put k d ms) ≡ (if b then Some d else o)
put_told true k l d o ms is told =
    let same = (bytes_eq-Decides k l).0 is in subst (λ n. get_member n (put k d ms) ≡ Some d) same (get_same k d ms)
put_told false k l d o ms is told = get_other l k d ms (λ same. let equal = (bytes_eq-Decides k l).1 (sym same) in cc) ∙ told

tells_put : (rows : Rows) (k : List ℕ) (d : Data) (ms : Members) → Tells ms rows → Tells (put k d ms) (put_row k d rows)
tells_put [] k d ms told = tt
tells_put (r ∷ rows) k d ms told = (put_told (bytes_eq k r.0) k r.0 d r.1 ms refl told.0, tells_put rows k d ms told.1)

told_at_name : (b : Bool) (k : List ℕ) (r : List ℕ × Option Data) (rows : Rows) (o : Option Data) (ms : Members) → bytes_eq k r.0 ≡ b
    → get_member r.0 ms ≡ r.1
    → (row_at k rows ≡ Some o → get_member k ms ≡ o) → (if b then Some r.1 else row_at k rows) ≡ Some o → get_member k ms ≡ o
told_at_name true k r rows o ms is told later at =
    let same = (bytes_eq-Decides k r.0).0 is in subst (λ n. get_member n ms ≡ r.1) (sym same) told ∙ (let e : Some r.1 ≡ Some o = at in cc)
told_at_name false k r rows o ms is told later at = later at

-- what a row says is so
pub told_at : (rows : Rows) (k : List ℕ) (o : Option Data) (ms : Members) → Tells ms rows → row_at k rows ≡ Some o → get_member k ms ≡ o
told_at [] k o ms told at = cc
told_at (r ∷ rows) k o ms told at = told_at_name (bytes_eq k r.0) k r rows o ms refl told.0 (told_at rows k o ms told.1) at

open_told : (rows : Rows) → AreOpen rows → Tells no_members rows
open_told [] h = tt
open_told (r ∷ rows) h = (sym h.0, open_told rows h.1)

-- ---- one member more

abbrev push : json.Members → List ℕ → json.Json → json.Members
push json.no_members k j = json.member k j json.no_members
push (json.member l i ms) k j = json.member l i (push ms k j)

-- these members, each with a comma behind it
abbrev so_far : json.Members → List Lexeme
so_far json.no_members = []
so_far (json.member k j ms) = token (Token.string k) ∷ (colon ∷ (value_lexemes j ++ comma ∷ so_far ms))

so_far_push : (ms : json.Members) (k : List ℕ) (j : json.Json) (rest : List Lexeme)
    → so_far (push ms k j) ++ rest ≡ so_far ms ++ (token (Token.string k) ∷ (colon ∷ (value_lexemes j ++ comma ∷ rest)))
so_far_push json.no_members k j rest = ap (λ l. token (Token.string k) ∷ (colon ∷ l)) (append_assoc (value_lexemes j) (comma ∷ []) rest)
so_far_push (json.member l i ms) k j rest =
    ap (λ x. token (Token.string l) ∷ (colon ∷ x))
    (append_assoc (value_lexemes i) (comma ∷ so_far (push ms k j)) rest ∙ ap (λ x. value_lexemes i ++ comma ∷ x) (so_far_push ms k j rest)
    ∙ sym (append_assoc (value_lexemes i) (comma ∷ so_far ms) _))

-- the last member, and the bracket
closed : (later : Bool) (ms : json.Members) (k : List ℕ) (j : json.Json) (rest : List Lexeme)
    → members_lexemes later (push ms k j) ++ rest ≡ comma_if later
    ++ (so_far ms ++ (token (Token.string k) ∷ (colon ∷ (value_lexemes j ++ token Token.end_object ∷ rest))))
closed later json.no_members k j rest = simp append_assoc
closed later (json.member l i ms) k j rest =
    append_assoc (comma_if later) _ rest
    ∙ ap (λ x. comma_if later ++ (token (Token.string l) ∷ (colon ∷ x)))
    (append_assoc (value_lexemes i) (members_lexemes true (push ms k j)) rest ∙ ap (λ x. value_lexemes i ++ x) (closed true ms k j rest)
    ∙ sym (append_assoc (value_lexemes i) (comma ∷ so_far ms) _))

read_push_at : (o : Option Data) (ms : json.Members) (l k : List ℕ) (j : json.Json) (d : Data) (before found : Members)
    → ((old : Members) → of_members ms old ≡ Some found → of_members (push ms k j) old ≡ Some (put k d found))
    → option_and_then (λ e. of_members ms (put l e before)) o ≡ Some found
    → option_and_then (λ e. of_members (push ms k j) (put l e before)) o ≡ Some (put k d found)
read_push_at None ms l k j d before found later is = absurd (cc)
read_push_at (Some e) ms l k j d before found later is = later (put l e before) is

read_push : (ms : json.Members) (k : List ℕ) (j : json.Json) (d : Data) (before found : Members) → of_json j ≡ Some d
    → of_members ms before ≡ Some found → of_members (push ms k j) before ≡ Some (put k d found)
read_push json.no_members k j d before found value is = rw value (ap (λ o. option_map (put k d) o) is)
read_push (json.member l i ms) k j d before found value is =
    read_push_at (of_json i) ms l k j d before found (λ old h. read_push ms k j d old found value h) is

shallow_push : (n : ℕ) (ms : json.Members) (k : List ℕ) (j : json.Json) → members_depth ms ≤ n → depth j ≤ n
    → members_depth (push ms k j) ≤ n
shallow_push n json.no_members k j low here = omega (arith, here)
shallow_push n (json.member l i ms) k j low here =
    let rest = shallow_push n ms k j (omega (arith, low)) here in
    omega (arith, low, rest)

-- ---- the loop

-- The lexemes behind the opening bracket are so many members, each with its comma, and the rest; the rows say their values.
pub record Gathers (n : ℕ) (start : List Lexeme) (rows : Rows) (count : ℕ) (rest : List Lexeme) : Type 0 where
  pub members : json.Members
  pub found : Members
  pub lexemes : start ≡ so_far members ++ rest
  pub reads : of_members members no_members ≡ Some found
  pub tells : Tells found rows
  pub counted : members_len found ≡ count
  pub shallow : members_depth members ≤ n

pub none_yet : (n : ℕ) (start : List Lexeme) (rows : Rows) → AreOpen rows → Gathers n start rows 0 start
none_yet n start rows h = record {
  members = json.no_members;
  found = no_members;
  lexemes = refl;
  reads = refl;
  tells = open_told rows h;
  counted = refl;
  shallow = omega arith;
}

pub one_more : (n : ℕ) (start now behind rest : List Lexeme) (rows after : Rows) (count : ℕ) → Gathers n start rows count now
    → ReadsMember n now rows after behind → behind ≡ comma ∷ rest → Gathers n start after (count + 1) rest
one_more n start now behind rest rows after count g m next =
    let (j, is, same, low) = m.reads in
    record {
      members = push g.members m.name j;
      found = put m.name m.value g.found;
      lexemes = g.lexemes ∙ ap (λ l. so_far g.members ++ l)
          (m.named ∙ ap (λ l. token (Token.string m.name) ∷ (colon ∷ l)) (is ∙ ap (λ l. value_lexemes j ++ l) next))
          ∙ sym (so_far_push g.members m.name j rest);
      reads = read_push g.members m.name j m.value no_members g.found same g.reads;
      tells = subst (Tells (put m.name m.value g.found)) (sym m.full) (tells_put rows m.name m.value g.found g.tells);
      counted = len_put m.name m.value g.found (told_at rows m.name None g.found g.tells m.empty) ∙ omega (arith, g.counted);
      shallow = shallow_push n g.members m.name j g.shallow low;
    }

pub all_gathered : (n : ℕ) (text start now behind rest : List Lexeme) (rows after : Rows) (count : ℕ)
    → text ≡ token Token.begin_object ∷ start → Gathers n start rows count now → ReadsMember n now rows after behind
    → behind ≡ token Token.end_object ∷ rest → ReadsMembers n text after (count + 1) rest
all_gathered n text start now behind rest rows after count begin g m next =
    let (j, is, same, low) = m.reads in
    record {
      members = push g.members m.name j;
      found = put m.name m.value g.found;
      lexemes = begin ∙ ap (λ l. token Token.begin_object ∷ l)
          (g.lexemes ∙ ap (λ l. so_far g.members ++ l)
          (m.named ∙ ap (λ l. token (Token.string m.name) ∷ (colon ∷ l)) (is ∙ ap (λ l. value_lexemes j ++ l) next))
          ∙ sym (closed false g.members m.name j rest));
      reads = read_push g.members m.name j m.value no_members g.found same g.reads;
      tells = subst (Tells (put m.name m.value g.found)) (sym m.full) (tells_put rows m.name m.value g.found g.tells);
      counted = len_put m.name m.value g.found (told_at rows m.name None g.found g.tells m.empty) ∙ omega (arith, g.counted);
      shallow = shallow_push n g.members m.name j g.shallow low;
    }

-- what fills a row is a member that may come
pub row_filled : (m n : ℕ) (text : List Lexeme) (name : List ℕ) (before after : Option Data) (rows later : Rows) (rest : List Lexeme)
    → m ≤ n → Fills m text name before after rest
    → row_at name rows ≡ Some before → ((d : Data) → after ≡ Some d → later ≡ put_row name d rows) → ReadsMember n text rows later rest
row_filled m n text name before after rows later rest low f at put = record {
  name = name;
  value = f.value;
  behind = f.behind;
  named = f.named;
  reads = deeper m n f.behind f.value rest low f.reads;
  empty = at ∙ ap Some f.empty;
  full = put f.value f.full;
}

-- ---- the whole object

all_held_here : (found es : Members) (rows : Rows) → Tells found rows → AllTold rows es → Holds (object found) es
all_held_here found no_members rows told all = tt
all_held_here found (member k d es) rows told all = (told_at rows k (Some d) found told all.0, all_held_here found es rows told all.1)

-- an object with as many members as these, each of which it has
pub object_read : (n : ℕ) (text rest : List Lexeme) (rows : Rows) (count : ℕ) (es : Members) → ReadsMembers n text rows count rest
    → AllTold rows es → Rise es → count ≡ members_len es → ReadsValue (n + 1) text (object es) rest
object_read n text rest rows count es m all rise len =
    let read : of_json (json.object m.members) ≡ Some (object m.found) = ap (option_map object) m.reads in
    let ordered : IsOrdered (object m.found) = subst (λ o. IfSome o IsOrdered) read (of_json_ordered (json.object m.members)) in
    let same : m.found ≡ es = only_these m.found es ordered rise (all_held_here m.found es rows m.tells all) (m.counted ∙ len) in
    (json.object m.members, m.lexemes, read ∙ ap (λ ms. Some (object ms)) same, omega (arith, m.shallow))

-- an object of so many members, their names ascending
record IsWhole (count : ℕ) (d : Data) : Type 0 where
  same : object (members_of d) ≡ d
  rise : Rise (members_of d)
  len : count ≡ members_len (members_of d)

record_read : (n : ℕ) (text rest : List Lexeme) (rows : Rows) (count : ℕ) (d : Data) → IsWhole count d → ReadsMembers n text rows count rest
    → AllTold rows (members_of d) → ReadsValue (n + 1) text d rest
record_read n text rest rows count d w m all =
    subst (λ e. ReadsValue (n + 1) text e rest) w.same (object_read n text rest rows count (members_of d) m all w.rise w.len)

draft_whole : (r : RecordDraft) (count : ℕ) → count ≡ members_len (members_of (draft_data r)) → IsWhole count (draft_data r)
draft_whole (records.Port r) count len = record { same = refl; rise = record_rises (records.Port r); len = len }
draft_whole r count len = record { same = refl; rise = record_rises r; len = len }

pub draft_read : (text rest : List Lexeme) (rows : Rows) (count : ℕ) (r : RecordDraft) → ReadsMembers 2 text rows count rest
    → AllTold rows (members_of (draft_data r)) → count ≡ members_len (members_of (draft_data r)) → ReadsValue 3 text (draft_data r) rest
draft_read text rest rows count r m all len = record_read 2 text rest rows count (draft_data r) (draft_whole r count len) m all

edit_rises : (e : EditDraft) → Rise (members_of (edit_value e))
edit_rises (edits.Put put key v) = assumption
edit_rises e = assumption

edit_same : (e : EditDraft) → object (members_of (edit_value e)) ≡ edit_value e
edit_same (edits.Put put key v) = refl
edit_same e = refl

pub edit_read : (text rest : List Lexeme) (rows : Rows) (count : ℕ) (o : Option EditDraft) → ReadsMembers 3 text rows count rest
    → IfSome o (IsEdit rows count) → IfSome o (λ e. ReadsValue 4 text (edit_value e) rest)
edit_read text rest rows count None m is = tt
edit_read text rest rows count (Some e) m is =
    record_read 3 text rest rows count (edit_value e) (record { same = edit_same e; rise = edit_rises e; len = is.len }) m is.told
