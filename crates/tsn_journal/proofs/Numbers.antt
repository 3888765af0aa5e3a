-- Lists of entries with one more, the numbers of entries, and the entries after one.
use Rattle.std.proofs.Common.{◌≡◌, ℕ, ◌+◌, ◌<◌, ◌≤◌, Bool, true, false, cond, ◌||◌, not, List, [], ◌∷◌, ◌++◌, refl, sym, ◌∙◌, ap, Option, Some, None, arith}
use Rattle.std.proofs.lemmas.Grind.{common_steps}
use Rattle.std.specs.Prelude.{filter, option_map, ◌==◌, nat_le, nat_lt}
use Rattle.std.specs.List.{AllByRecursion, cons_option}
use Rattle.std.specs.Option.{option_or}
use Rattle.std.proofs.lemmas.Bool.Decides.{nat_tests}
use Rattle.tsn_edit.specs.Parts.{Change}
use Rattle.tsn_entries.specs.declared.entries.What.{What}
use Rattle.tsn_entries.specs.declared.entries.What.TheVariants.{Made, Undone, Redone, Acted, Settled}
use Rattle.tsn_entries.specs.declared.entries.Entry.{Entry}
use Rattle.tsn_entries.specs.Entries.{Applied, IsNumbered, adds, applied, changes, collect, standing, closes}
use Rattle.tsn_entries.specs.Finding.{last_where, later_than}
use Rattle.tsn_journal.proofs.Marking.{is_closed-push}
use Rattle.std.proofs.lemmas.List.Elements.{filter_map-append, filter-append}
use Rattle.std.proofs.lemmas.Bool.{le-ltb}
use Rattle.tsn_edit.proofs.KeyFacts.{by_bool}
use Rattle.tsn_edit.proofs.Inverses.{each_weaker}

pub changes-append : (xs ys : List Applied) → changes (xs ++ ys) ≡ changes xs ++ changes ys
changes-append xs ys = grind (arith, common_steps)

pub collect_push : (pick : What → Option Change) (es : List Entry) (e : Entry)
    → collect pick (es ++ e ∷ []) ≡ collect pick es ++ cons_option (applied pick e) []
collect_push pick es e = filter_map-append (applied pick) es (e ∷ [])

-- ---- the standing entries with one entry more

-- whether an entry that did this takes back the standing entry of the number, or settles it
abbrev pub undoes_number : What → ℕ → Bool
undoes_number (Made c) k = false
undoes_number (Undone n c) k = n == k
undoes_number (Redone n c) k = false
undoes_number (Acted act key now) k = false
undoes_number (Settled upto) k = nat_le k upto

undone_by : (w v : What) (n s : ℕ) (c : Change) → adds v ≡ Some c → closes w (record { number = n; session = s; what = v }) ≡ undoes_number
    w n
undone_by w v n s c some = grind arith

one_left : (taken by : Bool) (p : Applied → Bool) (x : Applied) (xs : List Applied) → p x ≡ not by
    → cons_option (cond (taken || by) None (Some x)) (filter p xs) ≡ filter p (cons_option (cond taken None (Some x)) xs)
one_left taken by p x xs h = grind arith

none_left : (taken by : Bool) (p : Applied → Bool) (xs : List Applied)
    → cons_option (cond (taken || by) None None) (filter p xs) ≡ filter p (cons_option (cond taken None None) xs)
none_left taken by p xs = grind arith

cons_filter : (o : Option Applied) (p : Applied → Bool) (xs ys : List Applied) → cons_option o (xs ++ ys) ≡ cons_option o xs ++ ys
cons_filter o p xs ys = grind arith

pub standing_push : (es : List Entry) (e : Entry)
    → standing (es ++ e ∷ []) ≡ filter (λ x. not (undoes_number e.what x.number)) (standing es) ++ cons_option (applied adds e) []
standing_push [] e = refl
standing_push (x ∷ es) e = grind (arith, is_closed-push, cons_filter, none_left, one_left, undone_by, standing_push es e)

-- strictly rising numbers, from n on
abbrev pub Rises : ℕ → List Applied → Type 0
Rises n [] = Unit {0}
Rises n (x ∷ xs) = (n ≤ x.number) × Rises (x.number + 1) xs

pub rises_lower : (n m : ℕ) (xs : List Applied) → n ≤ m → Rises m xs → Rises n xs
rises_lower n m [] h r = tt
rises_lower n m (x ∷ xs) h r = (let a : m ≤ x.number = r.0 in omega arith, r.1)

rises_cons : (n number session : ℕ) (o : Option Change) (xs : List Applied) → n ≡ number → Rises (n + 1) xs
    → Rises n (cons_option (option_map (λ c. record { number = number; session = session; change = c }) o) xs)
rises_cons n number session o xs is rest = grind (arith, rises_lower)

pub rises_collect : (pick : What → Option Change) (n : ℕ) (es : List Entry) → IsNumbered n es → Rises n (collect pick es)
rises_collect pick n [] h = tt
rises_collect pick n (e ∷ es) h =
    rises_cons n e.number e.session (pick e.what) (collect pick es) (sym h.0) (rises_collect pick (n + 1) es h.1)

rises_from : (n : ℕ) (es : List Entry) → IsNumbered n es → Rises n (standing es)
rises_from n [] h = tt
rises_from n (e ∷ es) h = grind (arith, rises_lower, rises_cons, rises_from (n + 1) es h.1)

pub rises_standing : (es : List Entry) → IsNumbered 1 es → Rises 1 (standing es)
rises_standing es h = rises_from 1 es h

pub filter_none : (p : Applied → Bool) (xs : List Applied) → AllByRecursion (λ x. p x ≡ false) xs → filter p xs ≡ []
filter_none p [] h = refl
filter_none p (x ∷ xs) h = ap (λ b. cond b (x ∷ filter p xs) (filter p xs)) h.0 ∙ filter_none p xs h.1

pub filter_all : (p : Applied → Bool) (xs : List Applied) → AllByRecursion (λ x. p x ≡ true) xs → filter p xs ≡ xs
filter_all p [] h = refl
filter_all p (x ∷ xs) h = ap (λ b. cond b (x ∷ filter p xs) (filter p xs)) h.0 ∙ ap (λ ys. x ∷ ys) (filter_all p xs h.1)

-- x is the last of the list that passes
pub record IsLast (test : Applied → Bool) (xs : List Applied) (x : Applied) : Type 0 where
  pub front : List Applied
  pub rest : List Applied
  pub is : xs ≡ front ++ x ∷ rest
  pub passes : test x ≡ true
  pub none_later : AllByRecursion (λ y. test y ≡ false) rest

pub last_where_none : (test : Applied → Bool) (xs : List Applied) → last_where test xs ≡ None → AllByRecursion (λ y. test y ≡ false) xs
last_where_none test [] h = tt
last_where_none test (x ∷ xs) h =
    elim (last_where test xs) as (λ o. last_where test xs ≡ o → option_or o (cond (test x) (Some x) None) ≡ None
    → AllByRecursion (λ y. test y ≡ false) (x ∷ xs)) [
      | None ↦ λ none h. (
        by_bool (test x) (λ yes. let e : cond true (Some x) None ≡ None = ap (λ b. cond b (Some x) None) (sym yes) ∙ h in
            (cc)) (λ no. no),
        last_where_none test xs none,
      )
      | Some y ↦ λ some h. (cc)
    ] refl h

pub last_where_some : (test : Applied → Bool) (xs : List Applied) (x : Applied) → last_where test xs ≡ Some x → IsLast test xs x
last_where_some test [] x h = (cc)
last_where_some test (z ∷ xs) x h =
    elim (last_where test xs) as (λ o. last_where test xs ≡ o → option_or o (cond (test z) (Some z) None) ≡ Some x
    → IsLast test (z ∷ xs) x) [
      | None ↦ λ none h.
          elim (test z) as (λ b. test z ≡ b → cond b (Some z) None ≡ Some x → IsLast test (z ∷ xs) x) [
            | true ↦ λ pass h. let is : z ≡ x = (cc) in record {
              front = [];
              rest = xs;
              is = ap (λ y. y ∷ xs) is;
              passes = ap test (sym is) ∙ pass;
              none_later = last_where_none test xs none;
            }
            | false ↦ λ pass h. (cc)
          ] refl h
      | Some y ↦ λ some h. let is : y ≡ x = (cc) in
          let found = last_where_some test xs x (some ∙ ap Some is) in
          record {
            front = z ∷ found.front;
            rest = found.rest;
            is = ap (λ ys. z ∷ ys) found.is;
            passes = found.passes;
            none_later = found.none_later;
          }
    ] refl h

pub rises_rest : (n : ℕ) (front : List Applied) (x : Applied) (rest : List Applied) → Rises n (front ++ x ∷ rest)
    → (n ≤ x.number) × Rises (x.number + 1) rest × AllByRecursion (λ y. y.number < x.number) front
rises_rest n [] x rest r = (r.0, r.1, tt)
rises_rest n (y ∷ front) x rest r = grind (arith, rises_rest (y.number + 1) front x rest r.1)

pub rises_above : (n : ℕ) (xs : List Applied) → Rises n xs → AllByRecursion (λ y. n ≤ y.number) xs
rises_above n [] r = tt
rises_above n (y ∷ xs) r = grind (arith, rises_above n xs (rises_lower n (y.number + 1) xs (omega arith) r.1))

above_lt : (n m : ℕ) → n + 1 ≤ m → nat_lt n m ≡ true
above_lt n m h = grind (arith, nat_tests)

other_number : (n m : ℕ) → m < n → not (n == m) ≡ true
other_number n m h = grind (arith, nat_tests)

other_number_above : (n m : ℕ) → n + 1 ≤ m → not (n == m) ≡ true
other_number_above n m h = grind (arith, nat_tests)

own_number : (n : ℕ) → not (n == n) ≡ false
own_number n = grind (arith, nat_tests)

-- the later entries are those after it
pub later_than_rest : (n : ℕ) (front : List Applied) (x : Applied) (rest : List Applied) → Rises n (front ++ x ∷ rest)
    → later_than x.number (front ++ x ∷ rest) ≡ rest
later_than_rest n front x rest r =
    grind (arith, rises_rest, filter-append, filter_none, each_weaker, le-ltb, filter_all, above_lt, rises_above)

-- without the number the list is the front and the rest
pub left_one : (n : ℕ) (front : List Applied) (x : Applied) (rest : List Applied) → Rises n (front ++ x ∷ rest)
    → filter (λ y. not (x.number == y.number)) (front ++ x ∷ rest) ≡ front ++ rest
left_one n front x rest r =
    grind (arith, rises_rest, filter-append, filter_all, each_weaker, other_number, own_number, other_number_above, rises_above)
