-- What was read holds its members in ascending order of their names, so the members that it holds at given names are
-- all of it where it has no more.
use Rattle.std.proofs.Common.{◌≡◌, ℕ, ◌≤◌, suc, List, Bool, true, false, cond, Ok, Err, Some, None, option_map, option_and_then, IfSome, Ordering, Less, Equal, Greater, refl, sym, ap, subst, ◌∙◌, arith, eqb-true}
use Rattle.std.specs.Prelude.{⊤, ◌==◌, if◌then◌else◌}
use Rattle.std.specs.Str.{is_utf8}
use Rattle.std.proofs.lemmas.Cmp.{nat_list_cmp_total}
use Rattle.json.specs.Json as json
use Rattle.json.specs.Lex.{tokens}
use Rattle.serde_json.specs.Data.{Data, number, array, object, Items, no_items, item, Members, no_members, member, put}
use Rattle.serde_json.specs.Find.{get, get_member}
use Rattle.serde_json.specs.Read.{number_of, of_json, of_items, of_members, read, max_depth}
use Rattle.tsn_records.specs.Json.{has_members, members_len}
use Rattle.tsn_records.proofs.NameOrder.{any, at_order, if_and_then, if_found, if_map, order, same_name, turned, turned_back}
use Rattle.tsn_wire.specs.Reading.{data_of}
use Rattle.tsn_records.specs.declared.unread.Unread.TheVariants.{Shape}

-- every name is above k
abbrev pub Above : List ℕ → Members → Type 0
Above k no_members = ⊤
Above k (member l e ms) = (order k l ≡ Less) × Above k ms

-- each name is below those after it, also in the arrays and objects inside
abbrev mutual
  pub IsOrdered : Data → Type 0
  IsOrdered (array ds) = ItemsAreOrdered ds
  IsOrdered (object ms) = AreOrdered ms
  IsOrdered d = ⊤

  pub ItemsAreOrdered : Items → Type 0
  ItemsAreOrdered no_items = ⊤
  ItemsAreOrdered (item d ds) = IsOrdered d × ItemsAreOrdered ds

  pub AreOrdered : Members → Type 0
  AreOrdered no_members = ⊤
  AreOrdered (member k d ms) = Above k ms × (IsOrdered d × AreOrdered ms)

above_below : (k l : List ℕ) (ms : Members) → order k l ≡ Less → Above l ms → Above k ms
above_below k l no_members less h = tt
above_below k l (member m e ms) less h = (nat_list_cmp_total.trans k l m less h.0, above_below k l ms less h.1)

-- ---- what was read is ordered

above_put : (l k : List ℕ) (d : Data) (ms : Members) → order l k ≡ Less → Above l ms → Above l (put k d ms)
above_put l k d no_members less h = (less, tt)
above_put l k d (member m e ms) less h =
    at_order (Above l) (order k m) (member k d (member m e ms)) (member m d ms) (member m e (put k d ms))
    (λ _. (less, h)) (λ _. h) (λ _. (h.0, above_put l k d ms less h.1))

ordered_put : (k : List ℕ) (d : Data) (ms : Members) → IsOrdered d → AreOrdered ms → AreOrdered (put k d ms)
ordered_put k d no_members x h = (tt, (x, tt))
ordered_put k d (member l e ms) x h =
    at_order AreOrdered (order k l) (member k d (member l e ms)) (member l d ms) (member l e (put k d ms))
    (λ is. ((is, above_below k l ms is h.0), (x, h))) (λ is. (h.0, (x, h.1.1)))
    (λ is. (above_put l k d ms (turned k l is) h.0, (h.1.0, ordered_put k d ms x h.1.1)))

mutual
  pub of_json_ordered : (j : json.Json) → IfSome (of_json j) IsOrdered
  of_json_ordered json.null = tt
  of_json_ordered (json.boolean b) = tt
  of_json_ordered (json.number s) = if_map (λ _. ⊤) IsOrdered number (λ a x. tt) (number_of s) (any (number_of s))
  of_json_ordered (json.string s) = tt
  of_json_ordered (json.array js) = if_map ItemsAreOrdered IsOrdered array (λ a x. x) (of_items js) (of_items_ordered js)
  of_json_ordered (json.object ms) =
      if_map AreOrdered IsOrdered object (λ a x. x) (of_members ms no_members) (of_members_ordered ms no_members tt)

  of_items_ordered : (js : json.Items) → IfSome (of_items js) ItemsAreOrdered
  of_items_ordered json.no_items = tt
  of_items_ordered (json.item j js) =
      if_and_then IsOrdered ItemsAreOrdered (λ d. option_map (item d) (of_items js))
      (λ d x. if_map ItemsAreOrdered ItemsAreOrdered (item d) (λ ds y. (x, y)) (of_items js) (of_items_ordered js)) (of_json j)
      (of_json_ordered j)

  of_members_ordered : (ms : json.Members) (found : Members) → AreOrdered found → IfSome (of_members ms found) AreOrdered
  of_members_ordered json.no_members found h = h
  of_members_ordered (json.member k j ms) found h =
      if_and_then IsOrdered AreOrdered (λ d. of_members ms (put k d found))
      (λ d x. of_members_ordered ms (put k d found) (ordered_put k d found x h)) (of_json j) (of_json_ordered j)

-- ---- ordered members that are held, and no more, are all

-- the value has each of these members
abbrev pub Holds : Data → Members → Type 0
Holds d no_members = ⊤
Holds d (member k e es) = (get k d ≡ Some e) × Holds d es

-- each name is below the next
abbrev pub Rise : Members → Type 0
Rise no_members = ⊤
Rise (member k d no_members) = ⊤
Rise (member k d (member l e ms)) = (order k l ≡ Less) × Rise (member l e ms)

above_rising : (k : List ℕ) (d : Data) (ms : Members) → Rise (member k d ms) → Above k ms
above_rising k d no_members h = tt
above_rising k d (member l e ms) h = (h.0, above_below k l ms h.0 (above_rising l e ms h.1))

rising_rest : (k : List ℕ) (d : Data) (ms : Members) → Rise (member k d ms) → Rise ms
rising_rest k d no_members h = tt
rising_rest k d (member l e ms) h = h.1

absent : (k : List ℕ) (ms : Members) → Above k ms → get_member k ms ≡ None
absent k no_members h = refl
absent k (member l e ms) h = rw h.0 (absent k ms h.1)

-- names above the first one are held by the rest
held_later : (l : List ℕ) (e : Data) (ms es : Members) → Above l es → Holds (object (member l e ms)) es → Holds (object ms) es
held_later l e ms no_members above h = tt
held_later l e ms (member k d es) above h = ((rw (turned_back l k above.0) at h.0), held_later l e ms es above.1 h.1)

abbrev IsAllOf : Members → Members → Type 0
IsAllOf ms es = (members_len es ≤ members_len ms) × (members_len ms ≡ members_len es → ms ≡ es)

more_than : (l : List ℕ) (e : Data) (ms es : Members) → members_len es ≤ members_len ms → IsAllOf (member l e ms) es
more_than l e ms es h = (omega arith, λ same. absurd (omega arith))

-- the first names beside each other, where the rest is known
all_held_at : (o : Ordering) (k l : List ℕ) (d e : Data) (ms es : Members) → order k l ≡ o → Above l ms → Rise (member k d es)
    → Holds (object (member l e ms)) (member k d es)
    → ((fs : Members) → Rise fs → Holds (object ms) fs → IsAllOf ms fs) → IsAllOf (member l e ms) (member k d es)
all_held_at Less k l d e ms es is ordered rise h rest =
    let missing : get_member k ms ≡ None = absent k ms (above_below k l ms is ordered) in
    let found : get_member k ms ≡ Some d = rw is at h.0 in
    cc
all_held_at Equal k l d e ms es is ordered rise h rest =
    let name = same_name k l is in
    let above : Above l es = subst (λ n. Above n es) name (above_rising k d es rise) in
    let tail = rest es (rising_rest k d es rise) (held_later l e ms es above h.1) in
    let found : Some e ≡ Some d = rw is at h.0 in
    let value : e ≡ d = cc in
    (omega (arith, tail.0), λ same. let others = tail.1 (omega arith) in cc)
all_held_at Greater k l d e ms es is ordered rise h rest =
    let below = turned k l is in
    let above : Above l (member k d es) = (below, above_below l k es below (above_rising k d es rise)) in
    more_than l e ms (member k d es) (rest (member k d es) rise (held_later l e ms (member k d es) above h)).0

all_held : (ms es : Members) → AreOrdered ms → Rise es → Holds (object ms) es → IsAllOf ms es
all_held no_members no_members ordered rise h = (omega arith, λ same. refl)
all_held no_members (member k d es) ordered rise h = let none : None ≡ Some d = h.0 in cc
all_held (member l e ms) no_members ordered rise h = (omega arith, λ same. absurd (omega arith))
all_held (member l e ms) (member k d es) ordered rise h =
    all_held_at (order k l) k l d e ms es refl ordered.0 rise h (λ fs r x. all_held ms fs ordered.1.1 r x)

-- ordered members that hold these, and are as many, are these
pub only_these : (ms es : Members) → AreOrdered ms → Rise es → Holds (object ms) es → members_len ms ≡ members_len es → ms ≡ es
only_these ms es ordered rise h same = (all_held ms es ordered rise h).1 same

passed : (b : Bool) (u : Unit {0}) → (if b then Ok tt else Err Shape) ≡ Ok u → b ≡ true
passed true u h = refl
passed false u h = cc

pub counted : (m n : ℕ) (u : Unit {0}) → (if m == n then Ok tt else Err Shape) ≡ Ok u → m ≡ n
counted m n u h = eqb-true m n (passed (m == n) u h)

some_counted : {A : Type 0} (n : ℕ) (u : Unit {0}) → (if 0 == suc n then Ok tt else Err Shape) ≡ Ok u → A
some_counted n u h = let none : 0 ≡ suc n = counted 0 (suc n) u h in absurd (omega arith)

-- an object with so many members, and with each of these, has these alone
pub whole_object : (n : ℕ) (d : Data) (es : Members) (u : Unit {0}) → IsOrdered d → has_members (suc n) d ≡ Ok u → members_len es ≡ suc n
    → Rise es → Holds d es → d ≡ object es
whole_object n (object ms) es u ordered count len rise h =
    ap object ((all_held ms es ordered rise h).1 (counted (members_len ms) (suc n) u count ∙ sym len))
whole_object n d es u ordered count len rise h = some_counted n u count

-- a member of what is ordered is ordered
member_ordered : (k : List ℕ) (ms : Members) → AreOrdered ms → IfSome (get_member k ms) IsOrdered
member_ordered k no_members h = tt
member_ordered k (member l e ms) h = if_found IsOrdered (order k l) e (get_member k ms) h.1.0 (member_ordered k ms h.1.1)

pub inner_ordered : (k : List ℕ) (d e : Data) → IsOrdered d → get k d ≡ Some e → IsOrdered e
inner_ordered k (object ms) e h is = subst (λ o. IfSome o IsOrdered) is (member_ordered k ms h)
inner_ordered k d e h is = cc

read_ordered : (b : Bool) (bytes : List ℕ) → IfSome (cond b (read bytes) None) IsOrdered
read_ordered true bytes =
    let found = option_and_then (λ p. json.if_last p.0 p.1) (json.value max_depth (tokens bytes)) in
    if_and_then (λ _. ⊤) IsOrdered of_json (λ j x. of_json_ordered j) found (any found)
read_ordered false bytes = tt

-- a line is read as an ordered value
pub line_ordered : (line : List ℕ) (d : Data) → data_of line ≡ Some d → IsOrdered d
line_ordered line d is = subst (λ o. IfSome o IsOrdered) is (read_ordered (is_utf8 line) line)
