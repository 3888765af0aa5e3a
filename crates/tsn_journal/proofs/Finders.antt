-- What each finder looks for, among marked entries.
use Rattle.std.proofs.Common.{◌≡◌, ℕ, Bool, true, false, cond, ◌||◌, ◌&&◌, not, List, [], ◌∷◌, refl, sym, ◌∙◌, ap, Option, Some, None, drop, filter, length, map, arith, rules}
use Rattle.std.proofs.lemmas.List.{length-map}
use Rattle.std.specs.Prelude.{◌==◌, is_some, option_map}
use Rattle.std.specs.List.{filter_map, find, list_any}
use Rattle.std.specs.Option.{option_and_then, option_or}
use Rattle.std.proofs.lemmas.Bool.{or_left, or_right, or_from, eqb-true}
use Rattle.tsn_edit.specs.Parts.{Change}
use Rattle.tsn_edit.specs.Changes.{conflicts}
use Rattle.tsn_edit.proofs.KeyFacts.{by_bool}
use Rattle.tsn_entries.specs.declared.entries.What.{What}
use Rattle.tsn_entries.specs.declared.entries.Entry.{Entry}
use Rattle.tsn_entries.specs.declared.entries.MarkedEntry.{MarkedEntry}
use Rattle.tsn_entries.specs.Entries.{Applied, adds, applied, applies, is_made, standing, undoes}
use Rattle.tsn_entries.specs.Finding.{find_conflict_of_others, find_own_in_conflict, last_where, later_than, own_standing, parts_of_all, redo_of, standing_entry}
use Rattle.tsn_entries.specs.Marks.{AreMarked, IsJournal, added_in, conflict_of_others, ends_redo, entries_of, is_in_conflict, is_others, is_own, newest_blocked, stands}
use Rattle.tsn_journal.proofs.Collecting.{IsOwn, filter_marked, filter_parts, find_marked, last_marked, later_marked, passes, standing-marked, stands-own}

abbrev num : Option Applied → Option ℕ
num o = option_map (λ x. x.number) o

abbrev at : Option MarkedEntry → Option ℕ
at o = option_map (λ m. m.entry.number) o

-- a test of marked entries agrees with one of standing entries
abbrev pub Agrees : (Applied → Bool) → (MarkedEntry → Bool) → Type 0
Agrees t p = (m : MarkedEntry) → p m ≡ passes t (stands m)

module _ (ms : List MarkedEntry) (is : IsJournal ms) where
  pub last_standing : (t : Applied → Bool) (p : MarkedEntry → Bool) → Agrees t p
      → at (last_where p ms) ≡ num (last_where t (standing (entries_of ms)))
  last_standing t p agree =
      sym (ap (λ xs. num (last_where t xs)) (standing-marked ms is.marked) ∙ last_marked stands t p ms stands-own agree)

  -- a search for the latest later one among what is picked of the entries
  pub later_picked : (pick : MarkedEntry → Option Applied) (xs : List Applied) → IsOwn pick → xs ≡ filter_map pick ms
      → (n : ℕ) (t : Applied → Bool) (p : MarkedEntry → Bool) → ((m : MarkedEntry) → p m ≡ passes t (pick m))
      → at (last_where p (drop n ms)) ≡ num (last_where t (later_than n xs))
  later_picked pick xs own picked n t p agree = grind (arith, later_marked, last_marked)

  pub standing_at : (n : ℕ) → standing_entry (entries_of ms) n ≡ option_and_then stands (find (λ m. m.entry.number == n) ms)
  standing_at n = ap (find (λ x. x.number == n)) (standing-marked ms is.marked) ∙ find_marked stands 1 n ms stands-own is.numbered

-- ---- the tests

abbrev mk : ℕ → ℕ → Change → Applied
mk n s c = record { number = n; session = s; change = c }

own : (b : Bool) (n s k : ℕ) (w : What)
    → (is_some (cond b (option_map (mk n s) (adds w)) None) && (s == k)) ≡ passes (λ x. x.session == k)
    (cond b (option_map (mk n s) (adds w)) None)
own b n s k w = grind arith

pub own_agrees : (k : ℕ) → Agrees (λ x. x.session == k) (λ m. is_some (stands m) && (m.entry.session == k))
own_agrees k m = own m.is_open m.entry.number m.entry.session k m.entry.what

conflict : (b : Bool) (n s : ℕ) (w : What) (e : Change)
    → (is_some (cond b (option_map (mk n s) (adds w)) None) && is_in_conflict (applies w) e) ≡ passes (λ f. conflicts f.change e)
    (cond b (option_map (mk n s) (adds w)) None)
conflict b n s w e = grind arith

pub conflict_agrees : (e : Change) → Agrees (λ f. conflicts f.change e) (λ m. is_some (stands m) && is_in_conflict (applies m.entry.what) e)
conflict_agrees e m = conflict m.is_open m.entry.number m.entry.session m.entry.what e

other : (b : Bool) (n s k : ℕ) (w : What) (e : Change)
    → ((is_some (cond b (option_map (mk n s) (adds w)) None) && not (s == k)) && is_in_conflict (applies w) e)
    ≡ passes (λ f. not (f.session == k) && conflicts f.change e) (cond b (option_map (mk n s) (adds w)) None)
other b n s k w e = grind arith

pub other_agrees : (k : ℕ) (e : Change) → Agrees (λ f. not (f.session == k) && conflicts f.change e)
    (λ m. is_others k m && is_in_conflict (applies m.entry.what) e)
other_agrees k e m = other m.is_open m.entry.number m.entry.session k m.entry.what e

any : (n s : ℕ) (w : What) (e : Change)
    → is_in_conflict (applies w) e ≡ passes (λ f. conflicts f.change e) (option_map (mk n s) (applies w))
any n s w e = grind arith

pub any_agrees : (e : Change) (m : MarkedEntry)
    → is_in_conflict (applies m.entry.what) e ≡ passes (λ f. conflicts f.change e) (applied applies m.entry)
any_agrees e m = any m.entry.number m.entry.session m.entry.what e

-- ---- an own entry that is blocked, and the own entries

same_some : (o : Option MarkedEntry) (p : Option Applied) → at o ≡ num p → is_some o ≡ is_some p
same_some o p h = grind arith

module _ (ms : List MarkedEntry) (is : IsJournal ms) where
  others_is : (n s : ℕ) (w : What) (c : Change) → applies w ≡ Some c
      → is_some (conflict_of_others ms (record { number = n; session = s; what = w }))
      ≡ is_some (find_conflict_of_others (entries_of ms) (mk n s c))
  others_is n s w c change = grind (arith, same_some, later_picked, stands-own, standing-marked, other_agrees)

  blocked : (b : Bool) (n s k : ℕ) (w : What)
      → ((is_some (cond b (option_map (mk n s) (adds w)) None) && (s == k))
      && is_some (conflict_of_others ms (record { number = n; session = s; what = w })))
      ≡ passes (λ x. (x.session == k) && is_some (find_conflict_of_others (entries_of ms) x)) (cond b (option_map (mk n s) (adds w)) None)
  blocked b n s k w = grind (arith, others_is)

  pub own_in_conflict_is : (s : ℕ) → at (last_where (λ m. is_own s m && is_some (conflict_of_others ms m.entry)) ms)
      ≡ num (find_own_in_conflict (entries_of ms) s)
  own_in_conflict_is s = search (rules, last_standing, blocked)

  pub own_numbers : (s : ℕ) → map (λ (m : MarkedEntry). m.entry.number) (filter (is_own s) ms) ≡ map (λ (x : Applied). x.number)
      (own_standing (entries_of ms) s)
  own_numbers s = sym (ap (λ xs. map (λ (x : Applied). x.number) (filter (λ x. x.session == s) xs)) (standing-marked ms is.marked)
      ∙ filter_marked stands (λ x. x.session == s) (is_own s) ms stands-own (own_agrees s))

  pub own_count : (s : ℕ) → length (filter (is_own s) ms) ≡ length (own_standing (entries_of ms) s)
  own_count s =
      sym (length-map (filter (is_own s) ms) (λ (m : MarkedEntry). m.entry.number))
      ∙ ap length (own_numbers s)
      ∙ length-map (own_standing (entries_of ms) s) (λ (x : Applied). x.number)

  pub own_parts : (s : ℕ) → added_in (filter (is_own s) ms) ≡ parts_of_all (own_standing (entries_of ms) s)
  own_parts s = sym (ap (λ xs. parts_of_all (filter (λ x. x.session == s) xs)) (standing-marked ms is.marked)
      ∙ filter_parts (λ x. x.session == s) (is_own s) ms (own_agrees s))

-- a session's newest standing entry that is blocked, by number
pub blocked_named : (ms : List MarkedEntry) (s : ℕ) → IsJournal ms → newest_blocked s ms ms ≡ num (find_own_in_conflict (entries_of ms) s)
blocked_named ms s is = own_in_conflict_is ms is s

-- ---- what may be redone

abbrev edit_of : ℕ → Entry → Bool
edit_of s w = (w.session == s) && is_made w.what

abbrev ends : ℕ → MarkedEntry → Bool
ends s m = (m.entry.session == s) && ends_redo m

abbrev pub redone_at : MarkedEntry → Option Applied
redone_at m = applied undoes m.entry

-- where the search ends at an edit, there is one
made_ends : (a b o : Bool) (w : What) (n s : ℕ) → (a && (is_made w || (is_some (undoes w) && o))) ≡ true
    → option_map (mk n s) (undoes w) ≡ None → (a && is_made w) ≡ true
made_ends a b o w n s h none = grind arith

pub last_of_two : (o : Option MarkedEntry) (b : Bool) (m x : MarkedEntry) (G : Type 0) → option_or o (cond b (Some m) None) ≡ Some x
    → ((b ≡ true) → m ≡ x → G) → (o ≡ Some x → G) → G
last_of_two o b m x G h f g = grind arith

edit_there : (s : ℕ) (ms : List MarkedEntry) (x : MarkedEntry) → last_where (ends s) ms ≡ Some x → redone_at x ≡ None
    → list_any (edit_of s) (entries_of ms) ≡ true
edit_there s [] x h none = (cc)
edit_there s (m ∷ ms) x h none =
    last_of_two (last_where (ends s) ms) (ends s m) m x (list_any (edit_of s) (entries_of (m ∷ ms)) ≡ true) h
    (λ here same. or_left (edit_of s m.entry) _
    (made_ends (m.entry.session == s) true m.is_open m.entry.what m.entry.number m.entry.session here (ap redone_at same ∙ none)))
    (λ later. or_right (edit_of s m.entry) _ (edit_there s ms x later none))

pub neither : {A : Type 0} (o : Option A) (b : Bool) (m : A) → option_or o (cond b (Some m) None) ≡ None → (o ≡ None) × (b ≡ false)
neither o b m h = grind arith

no_edit_here : (a o : Bool) (w : What) → (a && (is_made w || (is_some (undoes w) && o))) ≡ false → (a && is_made w) ≡ false
no_edit_here a o w h = grind arith

no_edit : (s : ℕ) (ms : List MarkedEntry) → last_where (ends s) ms ≡ None → list_any (edit_of s) (entries_of ms) ≡ false
no_edit s [] h = refl
no_edit s (m ∷ ms) h =
    let both = neither (last_where (ends s) ms) (ends s m) m h in
    or_from (edit_of s m.entry) _ (no_edit_here (m.entry.session == s) m.is_open m.entry.what both.1) (no_edit s ms both.0)

-- an entry after which nothing ends the search
ended_here : (a o t : Bool) (w : What) (n s : ℕ) (m : MarkedEntry) → o ≡ not t → redone_at m ≡ option_map (mk n s) (undoes w)
    → cond (a && (is_some (undoes w) && (not t && true))) (option_map (mk n s) (undoes w)) None ≡ option_and_then redone_at
    (cond (a && (is_made w || (is_some (undoes w) && o))) (Some m) None)
ended_here a o t w n s m open' same = grind arith

never : (a u t : Bool) (o : Option Applied) → cond (a && (u && (t && false))) o None ≡ None
never a u t o = grind arith

pub redo_marked : (s : ℕ) (ms : List MarkedEntry) → AreMarked ms
    → redo_of (entries_of ms) s ≡ option_and_then redone_at (last_where (ends s) ms)
redo_marked s [] h = refl
redo_marked s (m ∷ ms) h = grind (arith, no_edit, ended_here, edit_there, never, redo_marked s ms h.1)

-- ---- the entry of a number

find_passes : (p : MarkedEntry → Bool) (ms : List MarkedEntry) (m : MarkedEntry) → find p ms ≡ Some m → p m ≡ true
find_passes p [] m h = (cc)
find_passes p (x ∷ ms) m h = by_bool (p x)
    (λ here. let is : Some x ≡ Some m = sym (ap (λ b. cond b (Some x) (find p ms)) here) ∙ h in let same : x ≡ m = (cc) in
    ap p (sym same) ∙ here)
    (λ off. find_passes p ms m (sym (ap (λ b. cond b (Some x) (find p ms)) off) ∙ h))

-- what the entry of a number is, as the one that was picked
pub record IsPicked (m : MarkedEntry) (n : ℕ) (e : Applied) : Type 0 where
  pub place : m.entry.number ≡ n
  pub number : e.number ≡ n
  pub session : e.session ≡ m.entry.session
  pub change : applies m.entry.what ≡ Some e.change

standing_parts : (b : Bool) (n s : ℕ) (w : What) (e : Applied) → cond b (option_map (mk n s) (adds w)) None ≡ Some e
    → (e.number ≡ n) × (e.session ≡ s) × (applies w ≡ Some e.change)
standing_parts b n s w e h = grind arith

undone_parts : (n s : ℕ) (w : What) (e : Applied) → option_map (mk n s) (undoes w) ≡ Some e
    → (e.number ≡ n) × (e.session ≡ s) × (applies w ≡ Some e.change)
undone_parts n s w e h = grind arith

module _ (ms : List MarkedEntry) (n : ℕ) (e : Applied) (m : MarkedEntry) (found : find (λ m. m.entry.number == n) ms ≡ Some m) where
  at_number : m.entry.number ≡ n
  at_number = eqb-true m.entry.number n (find_passes (λ m. m.entry.number == n) ms m found)

  pub standing_picked_of : stands m ≡ Some e → IsPicked m n e
  standing_picked_of is = grind (arith, standing_parts, at_number)

  pub undone_picked_of : redone_at m ≡ Some e → IsPicked m n e
  undone_picked_of is = grind (arith, undone_parts, at_number)
