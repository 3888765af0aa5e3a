-- Tables by their rows: what a table of rows has at a name, and that a table with these rows and no other members is theirs.
use Rattle.std.proofs.Common.{◌≡◌, ℕ, List, [], ◌∷◌, ◌&&◌, ◌||◌, Bool, true, false, not, if◌then◌else◌, Option, Some, None, Ok, Err, Ordering, Less, Equal, Greater, bytes_eq, refl, sym, ap, subst, ◌∙◌}
use Rattle.std.specs.Prelude.{⊤, IsSome}
use Rattle.std.specs.List.{AllByRecursion, list_any, list_all}
use Rattle.std.specs.Ordering.{match_ordering, is_eq, is_lt}
use Rattle.std.proofs.lemmas.Bool.{and_parts}
use Rattle.std.proofs.lemmas.Cmp.{nat_list_cmp_total}
use Rattle.toml.specs.Data.{Data, table, Members, no_members, member, get, get_member}
use Rattle.tsn_records.specs.declared.unread.Unread.TheVariants.{Shape}
use Rattle.tsn_setup.specs.Toml.{are_among, has_only}
use Rattle.tsn_setup.specs.Values.{Rows, given, put_row, table_with}
use Rattle.tsn_records.proofs.NameOrder.{at_order, order, same_name, same_order, same_text, turned}
use Rattle.tsn_setup.proofs.Ordered.{Above, IsOrdered, AreOrdered, above_below}

abbrev Row : Type 0
Row = List ℕ × Option Data

-- what rows have at a name
abbrev pub looked_up : List ℕ → Rows → Option Data
looked_up k [] = None
looked_up k (row ∷ rest) = match_ordering (order k row.0) (looked_up k rest) row.1 (looked_up k rest)

-- each name is below the next
abbrev pub is_rising : Rows → Bool
is_rising [] = true
is_rising (row ∷ []) = true
is_rising (row ∷ (next ∷ rest)) = is_lt (order row.0 next.0) && is_rising (next ∷ rest)

abbrev pub is_among : List (List ℕ) → List ℕ → Bool
is_among names k = list_any (λ name. bytes_eq name k) names

-- each name is one of these
abbrev pub rows_among : List (List ℕ) → Rows → Bool
rows_among names rows = list_all (λ row. is_among names row.0) rows

-- ---- names

by_order : {P : Type 0} (o : Ordering) → (o ≡ Less → P) → (o ≡ Equal → P) → (o ≡ Greater → P) → P
by_order Less l e g = l refl
by_order Equal l e g = e refl
by_order Greater l e g = g refl

less_at : (o : Ordering) → is_lt o ≡ true → o ≡ Less
less_at Less h = refl
less_at Equal h = cc
less_at Greater h = cc

-- ---- members in order

abbrev Ascend : Members → Type 0
Ascend no_members = ⊤
Ascend (member k d ms) = Above k ms × Ascend ms

ascending : (ms : Members) → AreOrdered ms → Ascend ms
ascending no_members h = tt
ascending (member k d ms) h = (h.0, ascending ms h.1.1)

absent : (k : List ℕ) (ms : Members) → Above k ms → get_member k ms ≡ None
absent k no_members h = refl
absent k (member l e ms) h = rw h.0 (absent k ms h.1)

abbrev Agree : Members → Members → Type 0
Agree ms es = (k : List ℕ) → get_member k ms ≡ get_member k es

first_found : (k : List ℕ) (d : Data) (ms : Members) → get_member k (member k d ms) ≡ Some d
first_found k d ms = rw (same_order k)

below_first : (k l : List ℕ) (e : Data) (es : Members) → order k l ≡ Less → Above l es → get_member k (member l e es) ≡ None
below_first k l e es less above = absent k (member l e es) (less, above_below k l es less above)

-- the rest agrees where the first names are one
rest_agrees_at : (o : Ordering) (j k : List ℕ) (d e : Data) (ms es : Members) → order j k ≡ o → Above k ms → Above k es
    → match_ordering o (get_member j ms) (Some d) (get_member j ms) ≡ match_ordering o (get_member j es) (Some e) (get_member j es)
    → get_member j ms ≡ get_member j es
rest_agrees_at Less j k d e ms es is a b h = h
rest_agrees_at Equal j k d e ms es is a b h =
    let same = same_name j k is in
    absent j ms (subst (λ n. Above n ms) (sym same) a) ∙ sym (absent j es (subst (λ n. Above n es) (sym same) b))
rest_agrees_at Greater j k d e ms es is a b h = h

same_members_at : (k l : List ℕ) (d e : Data) (ms es : Members) → k ≡ l → Above k ms → Above l es → Agree (member k d ms) (member l e es)
    → (Agree ms es → ms ≡ es) → member k d ms ≡ member l e es
same_members_at k l d e ms es same a b h rest =
    let value : Some d ≡ Some e = sym (first_found k d ms) ∙ h k ∙ ap (λ n. get_member n (member l e es)) same ∙ first_found l e es in
    let above : Above k es = subst (λ n. Above n es) (sym same) b in
    let agrees : Agree ms es = λ j.
    rest_agrees_at (order j k) j k d e ms es refl a above (h j ∙ ap (λ n. get_member j (member n e es)) (sym same)) in
    let others : ms ≡ es = rest agrees in
    cc

same_members : (ms es : Members) → Ascend ms → Ascend es → Agree ms es → ms ≡ es
same_members no_members no_members a b h = refl
same_members no_members (member l e es) a b h = let none : None ≡ Some e = h l ∙ first_found l e es in cc
same_members (member k d ms) no_members a b h = let none : Some d ≡ None = sym (first_found k d ms) ∙ h k in cc
same_members (member k d ms) (member l e es) a b h =
    by_order (order k l)
    (λ less. let none : Some d ≡ None = sym (first_found k d ms) ∙ h k ∙ below_first k l e es less b.0 in cc)
    (λ equal. same_members_at k l d e ms es (same_name k l equal) a.0 b.0 h (λ agrees. same_members ms es a.1 b.1 agrees))
    (λ greater. let none : None ≡ Some e = sym (below_first l k d ms (turned k l greater) a.0) ∙ h l ∙ first_found l e es in cc)

-- ---- rows in order

abbrev AboveRows : List ℕ → Rows → Type 0
AboveRows k [] = ⊤
AboveRows k (row ∷ rest) = (order k row.0 ≡ Less) × AboveRows k rest

rows_above_below : (k l : List ℕ) (rows : Rows) → order k l ≡ Less → AboveRows l rows → AboveRows k rows
rows_above_below k l [] less h = tt
rows_above_below k l (row ∷ rest) less h = (nat_list_cmp_total.trans k l row.0 less h.0, rows_above_below k l rest less h.1)

rest_rises : (row : Row) (rest : Rows) → is_rising (row ∷ rest) ≡ true → is_rising rest ≡ true
rest_rises row [] h = refl
rest_rises row (next ∷ rest) h = (and_parts (is_lt (order row.0 next.0)) (is_rising (next ∷ rest)) h).1

rows_above : (row : Row) (rest : Rows) → is_rising (row ∷ rest) ≡ true → AboveRows row.0 rest
rows_above row [] h = tt
rows_above row (next ∷ rest) h =
    let parts = and_parts (is_lt (order row.0 next.0)) (is_rising (next ∷ rest)) h in
    let less = less_at _ parts.0 in
    (less, rows_above_below row.0 next.0 rest less (rows_above next rest parts.1))

members_above : (k : List ℕ) (rows : Rows) → AboveRows k rows → Above k (given rows)
members_above k [] h = tt
members_above k ((l, None) ∷ rest) h = members_above k rest h.1
members_above k ((l, Some d) ∷ rest) h = (h.0, members_above k rest h.1)

members_ascend : (rows : Rows) → is_rising rows ≡ true → Ascend (given rows)
members_ascend [] h = tt
members_ascend ((l, None) ∷ rest) h = members_ascend rest (rest_rises (l, None) rest h)
members_ascend ((l, Some d) ∷ rest) h =
    (members_above l rest (rows_above (l, Some d) rest h), members_ascend rest (rest_rises (l, Some d) rest h))

left_out_at : (o : Ordering) (k l : List ℕ) (rest : Rows) → order k l ≡ o → AboveRows l rest → get_member k (given rest) ≡ looked_up k rest
    → get_member k (given rest) ≡ match_ordering o (looked_up k rest) None (looked_up k rest)
left_out_at Less k l rest is above h = h
left_out_at Equal k l rest is above h =
    absent k (given rest) (subst (λ n. Above n (given rest)) (sym (same_name k l is)) (members_above l rest above))
left_out_at Greater k l rest is above h = h

-- a table of rows has at each name what the rows have
got : (k : List ℕ) (rows : Rows) → is_rising rows ≡ true → get_member k (given rows) ≡ looked_up k rows
got k [] h = refl
got k ((l, None) ∷ rest) h = left_out_at (order k l) k l rest refl (rows_above (l, None) rest h) (got k rest (rest_rises (l, None) rest h))
got k ((l, Some d) ∷ rest) h = ap (λ x. match_ordering (order k l) x (Some d) x) (got k rest (rest_rises (l, Some d) rest h))

pub at_name : (k : List ℕ) (rows : Rows) (o : Option Data) → is_rising rows ≡ true → looked_up k rows ≡ o → get k (table_with rows) ≡ o
at_name k rows o h is = got k rows h ∙ is

-- ---- no others

other_at : (o : Ordering) (names : List (List ℕ)) (k l : List ℕ) (x y : Option Data) → order k l ≡ o → is_among names l ≡ true
    → is_among names k ≡ false → y ≡ None → match_ordering o y x y ≡ None
other_at Less names k l x y is known unknown h = h
other_at Equal names k l x y is known unknown h =
    let never : false ≡ true = sym unknown ∙ ap (λ n. is_among names n) (same_name k l is) ∙ known in cc
other_at Greater names k l x y is known unknown h = h

pub other_member : (names : List (List ℕ)) (ms : Members) (k : List ℕ) → are_among names ms ≡ true → is_among names k ≡ false
    → get_member k ms ≡ None
other_member names no_members k h unknown = refl
other_member names (member l d ms) k h unknown =
    let parts = and_parts (is_among names l) (are_among names ms) h in
    other_at (order k l) names k l (Some d) (get_member k ms) refl parts.0 unknown (other_member names ms k parts.1 unknown)

other_row : (names : List (List ℕ)) (rows : Rows) (k : List ℕ) → rows_among names rows ≡ true → is_among names k ≡ false
    → looked_up k rows ≡ None
other_row names [] k h unknown = refl
other_row names (row ∷ rest) k h unknown =
    let parts = and_parts (is_among names row.0) (rows_among names rest) h in
    other_at (order k row.0) names k row.0 row.1 (looked_up k rest) refl parts.0 unknown (other_row names rest k parts.1 unknown)

-- the members of a value that has no others than these
only_among : (b : Bool) (u : Unit {0}) → (if b then Ok tt else Err Shape) ≡ Ok u → b ≡ true
only_among true u h = refl
only_among false u h = cc

-- a value with a member at a name has only known names
pub known_at : (b : Bool) (names : List (List ℕ)) (ms : Members) (k : List ℕ) → is_among names k ≡ b → are_among names ms ≡ true
    → IsSome (get_member k ms) → b ≡ true
known_at true names ms k is h there = refl
known_at false names ms k is h there = let none : IsSome {T = Data} None = subst IsSome (other_member names ms k h is) there in cc

pub members_have : (names : List (List ℕ)) (d : Data) (u : Unit {0}) → has_only names d ≡ Ok u → (k : List ℕ) → IsSome (get k d)
    → is_among names k ≡ true
members_have names (table ms) u h k there = known_at (is_among names k) names ms k refl (only_among (are_among names ms) u h) there
members_have names d u h k there = cc

-- members of known names alone
pub all_among : (names : List (List ℕ)) (ms : Members) → ((k : List ℕ) → IsSome (get_member k ms) → is_among names k ≡ true)
    → are_among names ms ≡ true
all_among names no_members h = refl
all_among names (member l d ms) h =
    let first = h l (subst IsSome (sym (first_found l d ms)) refl) in
    rw (first, all_among names ms (λ k there. h k (at_order IsSome (order k l) _ (Some d) _ (λ _. there) (λ _. refl) (λ _. there))))

-- what holds of each of these names
of_each_at : (b : Bool) (P : List ℕ → Type 0) (name k : List ℕ) (more : Bool) → bytes_eq name k ≡ b → b || more ≡ true → P name
    → (more ≡ true → P k) → P k
of_each_at true P name k more is h here later = subst P (same_text name k is) here
of_each_at false P name k more is h here later = later h

pub of_each : (P : List ℕ → Type 0) (names : List (List ℕ)) (k : List ℕ) → is_among names k ≡ true → AllByRecursion P names → P k
of_each P [] k h all = cc
of_each P (name ∷ names) k h all =
    of_each_at (bytes_eq name k) P name k (is_among names k) refl h all.0 (λ later. of_each P names k later all.1)

agree_at : (b : Bool) (names : List (List ℕ)) (k : List ℕ) (ms : Members) (rows : Rows) → is_among names k ≡ b → are_among names ms ≡ true
    → rows_among names rows ≡ true
    → AllByRecursion (λ name. get_member name ms ≡ looked_up name rows) names → get_member k ms ≡ looked_up k rows
agree_at true names k ms rows is only among held = of_each (λ name. get_member name ms ≡ looked_up name rows) names k is held
agree_at false names k ms rows is only among held = other_member names ms k only is ∙ sym (other_row names rows k among is)

-- a table with what the rows have at each name, and with no other names, is theirs
pub whole_table : (names : List (List ℕ)) (d : Data) (rows : Rows) (u : Unit {0}) → IsOrdered d → has_only names d ≡ Ok u
    → is_rising rows ≡ true → rows_among names rows ≡ true
    → AllByRecursion (λ name. get name d ≡ looked_up name rows) names → d ≡ table_with rows
whole_table names (table ms) rows u ordered only rise among held =
    ap table (same_members ms (given rows) (ascending ms ordered) (members_ascend rows rise)
    (λ k. agree_at (is_among names k) names k ms rows refl (only_among (are_among names ms) u only) among held ∙ sym (got k rows rise)))
whole_table names d rows u ordered only rise among held = cc

members_among : (names : List (List ℕ)) (rows : Rows) → rows_among names rows ≡ true → are_among names (given rows) ≡ true
members_among names [] h = refl
members_among names ((l, None) ∷ rest) h = members_among names rest (and_parts (is_among names l) (rows_among names rest) h).1
members_among names ((l, Some d) ∷ rest) h =
    let parts = and_parts (is_among names l) (rows_among names rest) h in
    rw (parts.0, members_among names rest parts.1)

pub only_these : (names : List (List ℕ)) (rows : Rows) → rows_among names rows ≡ true → has_only names (table_with rows) ≡ Ok tt
only_these names rows h = rw (members_among names rows h)

-- ---- a row that was put where it belongs

pub put_found : (k : List ℕ) (d : Option Data) (rows : Rows) → looked_up k (put_row k d rows) ≡ d
put_found k d [] = rw (same_order k)
put_found k d (row ∷ rest) =
    at_order (λ found. looked_up k found ≡ d) (order k row.0) ((k, d) ∷ row ∷ rest) ((k, d) ∷ rest) (row ∷ put_row k d rest)
    (λ _. rw (same_order k)) (λ _. rw (same_order k)) (λ is. rw is (put_found k d rest))

-- names that differ
abbrev pub differ : List ℕ → List ℕ → Bool
differ j k = not (is_eq (order j k))

passed_by : (o : Ordering) (x y : Option Data) → not (is_eq o) ≡ true → match_ordering o x y x ≡ x
passed_by Less x y h = refl
passed_by Equal x y h = cc
passed_by Greater x y h = refl

-- others are found as before
pub put_other : (j k : List ℕ) (d : Option Data) (rows : Rows) → differ j k ≡ true → looked_up j (put_row k d rows) ≡ looked_up j rows
put_other j k d [] other = passed_by (order j k) None d other
put_other j k d (row ∷ rest) other =
    at_order (λ found. looked_up j found ≡ looked_up j (row ∷ rest)) (order k row.0)
    ((k, d) ∷ row ∷ rest) ((k, d) ∷ rest) (row ∷ put_row k d rest)
    (λ _. passed_by (order j k) (looked_up j (row ∷ rest)) d other)
    (λ is. let apart : differ j row.0 ≡ true = subst (λ n. differ j n ≡ true) (same_name k row.0 is) other in
    passed_by (order j k) (looked_up j rest) d other ∙ sym (passed_by (order j row.0) (looked_up j rest) row.1 apart))
    (λ _. ap (λ x. match_ordering (order j row.0) x row.1 x) (put_other j k d rest other))
