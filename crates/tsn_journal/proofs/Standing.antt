-- The standing entry of a number, and the entry itself.
use Rattle.std.proofs.Common.{◌≡◌, ℕ, ◌+◌, ◌<◌, ◌≤◌, Bool, true, cond, not, List, [], ◌∷◌, ◌++◌, refl, sym, ◌∙◌, ap, subst, Option, Some, None, arith}
use Rattle.std.specs.Prelude.{◌==◌, IfSome, IsSome, option_map}
use Rattle.std.specs.List.{AllByRecursion, find}
use Rattle.std.specs.Option.{option_and_then, option_or}
use Rattle.std.proofs.lemmas.Bool.Decides.{nat_tests}
use Rattle.tsn_edit.proofs.KeyFacts.{by_option}
use Rattle.tsn_entries.specs.declared.entries.Entry.{Entry}
use Rattle.tsn_entries.specs.declared.entries.MarkedEntry.{MarkedEntry}
use Rattle.tsn_entries.specs.Entries.{Applied, IsNumbered, applied, applies, collect, is_closed, standing, undoes}
use Rattle.tsn_entries.specs.Finding.{change_at, entry, last_where, may_redo, redo_of, standing_entry, undone_entry}
use Rattle.tsn_entries.specs.Marks.{AreMarked, entries_of, stands}
use Rattle.tsn_journal.proofs.Collecting.{applied-own, collect-marked, find_marked, standing-marked, stands-own}
use Rattle.tsn_journal.proofs.Finders.{IsPicked, redone_at, standing_picked_of, undone_picked_of}
use Rattle.tsn_journal.proofs.Marking.{find_entry}
use Rattle.tsn_journal.proofs.Numbers.{Rises, last_where_some, rises_rest, rises_standing}

-- ---- what a finder of standing entries gives is the one of its number

same_number : (n : ℕ) → (n == n) ≡ true
same_number n = grind (arith, nat_tests)

behind : (front : List Applied) (x : Applied) (rest : List Applied) → AllByRecursion (λ y. y.number < x.number) front
    → find (λ y. y.number == x.number) (front ++ x ∷ rest) ≡ Some x
behind [] x rest h = ap (λ b. cond b (Some x) (find (λ y. y.number == x.number) rest)) (same_number x.number)
behind (y ∷ front) x rest h = grind (arith, behind front x rest h.1)

-- a standing entry that stands at a place is the one of its number
pub standing_placed : (es : List Entry) (front : List Applied) (x : Applied) (rest : List Applied) → IsNumbered 1 es
    → standing es ≡ front ++ x ∷ rest → standing_entry es x.number ≡ Some x
standing_placed es front x rest numbered is =
    let parts = rises_rest 1 front x rest (subst (Rises 1) is (rises_standing es numbered)) in
    ap (find (λ y. y.number == x.number)) is ∙ behind front x rest parts.2

pub standing_found : (es : List Entry) (test : Applied → Bool) (x : Applied) → IsNumbered 1 es → last_where test (standing es) ≡ Some x
    → standing_entry es x.number ≡ Some x
standing_found es test x numbered last =
    let found = last_where_some test (standing es) x last in
    standing_placed es found.front x found.rest numbered found.is

-- ---- the entry of a standing entry

marks_of : List Entry → List MarkedEntry
marks_of [] = []
marks_of (e ∷ es) = record { entry = e; is_open = not (is_closed e es) } ∷ marks_of es

same_entries : (es : List Entry) → entries_of (marks_of es) ≡ es
unfolding marks_of
same_entries [] = refl
same_entries (e ∷ es) = ap (λ fs. e ∷ fs) (same_entries es)

well_marked : (es : List Entry) → AreMarked (marks_of es)
unfolding marks_of
well_marked [] = tt
well_marked (e ∷ es) = (ap (λ fs. not (is_closed e fs)) (sym (same_entries es)), well_marked es)

-- the entry of the number, as the one that was picked
pub record IsEntry (es : List Entry) (n : ℕ) (x : Applied) : Type 0 where
  pub found : Entry
  pub found_is : entry es n ≡ Some found
  pub place : found.number ≡ n
  pub number : x.number ≡ n
  pub session : x.session ≡ found.session
  pub change : applies found.what ≡ Some x.change

-- it is that entry with the change that it applied
pub entry_applied : (es : List Entry) (n : ℕ) (x : Applied) (at : IsEntry es n x) → applied applies at.found ≡ Some x
entry_applied es n x at = grind arith

module _ (es : List Entry) (n : ℕ) (x : Applied) (numbered : IsNumbered 1 es) where
  abbrev looked : Option MarkedEntry
  looked = find (λ m. m.entry.number == n) (marks_of es)

  as_entry : (m : MarkedEntry) → looked ≡ Some m → IsPicked m n x → IsEntry es n x
  as_entry m some picked = grind (arith, same_entries es, find_entry n (marks_of es))

  numbered_marks : IsNumbered 1 (entries_of (marks_of es))
  numbered_marks = subst (IsNumbered 1) (sym (same_entries es)) numbered

  pub standing_is_entry : standing_entry es n ≡ Some x → IsEntry es n x
  standing_is_entry is =
      let at : option_and_then stands looked ≡ Some x =
      sym (find_marked stands 1 n (marks_of es) stands-own numbered_marks)
      ∙ ap (find (λ y. y.number == n)) (sym (standing-marked (marks_of es) (well_marked es)) ∙ ap standing (same_entries es)) ∙ is in
      grind (arith, as_entry, standing_picked_of, marks_of)

  pub undone_is_entry : undone_entry es n ≡ Some x → IsEntry es n x
  undone_is_entry is =
      grind (arith, redone_at, find_marked, marks_of, applied-own, numbered_marks, collect-marked, same_entries, as_entry, undone_picked_of)

  -- the change that the entry applied is the one that was picked
  pub standing_change : standing_entry es n ≡ Some x → change_at es n ≡ Some x.change
  standing_change is = grind (arith, standing_is_entry)

  pub undone_change : undone_entry es n ≡ Some x → change_at es n ≡ Some x.change
  undone_change is = grind (arith, undone_is_entry)

-- ---- what may be redone is an Undone entry

pub redo_found : (n s : ℕ) (es : List Entry) (u : Applied) → IsNumbered n es → redo_of es s ≡ Some u
    → (n ≤ u.number) × (undone_entry es u.number ≡ Some u)
redo_found n s [] u h is = (cc)
redo_found n s (e ∷ es) u h is =
    let test : Applied → Bool = λ x. x.number == u.number in
    let rest = collect undoes es in
    by_option (redo_of es s)
    (λ none. grind arith)
    (λ v some.
    let both : Some v ≡ Some u = sym (ap (λ o. option_or o (cond (may_redo s e es) (applied undoes e) None)) some) ∙ is in
    let same : v ≡ u = (cc) in
    grind (arith, redo_found (n + 1) s es u h.1 (some ∙ ap Some same)))

pub redo_is_undone : (es : List Entry) (s : ℕ) (r : Option ℕ) → IsNumbered 1 es → r ≡ option_map (λ (x : Applied). x.number) (redo_of es s)
    → IfSome r (λ n. IsSome (undone_entry es n))
redo_is_undone es s r numbered is = grind (arith, redo_found)
