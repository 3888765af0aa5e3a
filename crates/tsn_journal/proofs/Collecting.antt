-- The standing entries, and those of one kind, among marked entries: each by its own mark.
use Rattle.std.proofs.Common.{◌≡◌, ℕ, zero, suc, ◌+◌, ◌<◌, Bool, false, List, [], ◌∷◌, refl, sym, ◌∙◌, ap, Option, Some, None, arith, drop, filter, map}
use Rattle.std.specs.Prelude.{◌==◌, option_map}
use Rattle.std.specs.List.{find, filter_map, cons_option}
use Rattle.std.specs.Option.{option_and_then}
use Rattle.std.proofs.lemmas.Bool.Decides.{nat_tests}
use Rattle.std.proofs.lemmas.List.{drop-map}
use Rattle.tsn_edit.specs.Parts.{Change}
use Rattle.tsn_entries.specs.declared.entries.What.{What}
use Rattle.tsn_entries.specs.declared.entries.Entry.{Entry}
use Rattle.tsn_entries.specs.declared.entries.MarkedEntry.{MarkedEntry}
use Rattle.tsn_entries.specs.Entries.{Applied, IsNumbered, applied, collect, standing}
use Rattle.tsn_entries.specs.Finding.{last_where, later_than, parts_of_all, since}
use Rattle.tsn_entries.specs.Marks.{AreMarked, added_in, entries_of, stands}
use Rattle.tsn_journal.proofs.Marking.{no_number}

-- what is picked of a marked entry has the entry's number
abbrev pub IsOwn : (MarkedEntry → Option Applied) → Type 0
IsOwn pick = (m : MarkedEntry) (x : Applied) → pick m ≡ Some x → x.number ≡ m.entry.number

-- whether what is picked passes the test
abbrev pub passes : (Applied → Bool) → Option Applied → Bool
passes t None = false
passes t (Some x) = t x

own_applied : (pick : What → Option Change) (e : Entry) (x : Applied) → applied pick e ≡ Some x → x.number ≡ e.number
own_applied pick e x is = grind arith

pub applied-own : (pick : What → Option Change) → IsOwn (λ m. applied pick m.entry)
applied-own pick m x is = own_applied pick m.entry x is

pub stands-own : IsOwn stands
stands-own m x is = grind arith

-- the standing entries are those that their marks say
pub standing-marked : (ms : List MarkedEntry) → AreMarked ms → standing (entries_of ms) ≡ filter_map stands ms
standing-marked [] h = refl
standing-marked (m ∷ ms) h = grind (arith, standing-marked ms h.1)

pub collect-marked : (pick : What → Option Change) (ms : List MarkedEntry)
    → collect pick (entries_of ms) ≡ filter_map (λ m. applied pick m.entry) ms
collect-marked pick [] = refl
collect-marked pick (m ∷ ms) = ap (cons_option (applied pick m.entry)) (collect-marked pick ms)

-- ---- the last one that passes

abbrev num : Option Applied → Option ℕ
num o = option_map (λ x. x.number) o

abbrev at : Option MarkedEntry → Option ℕ
at o = option_map (λ m. m.entry.number) o

pub last_marked : (pick : MarkedEntry → Option Applied) (t : Applied → Bool) (p : MarkedEntry → Bool) (ms : List MarkedEntry) → IsOwn pick
    → ((m : MarkedEntry) → p m ≡ passes t (pick m))
    → num (last_where t (filter_map pick ms)) ≡ at (last_where p ms)
last_marked pick t p [] own agree = refl
last_marked pick t p (m ∷ ms) own agree = grind (arith, last_marked pick t p ms own agree)

-- ---- the numbers of those that pass

pub filter_marked : (pick : MarkedEntry → Option Applied) (t : Applied → Bool) (p : MarkedEntry → Bool) (ms : List MarkedEntry) → IsOwn pick
    → ((m : MarkedEntry) → p m ≡ passes t (pick m))
    → map (λ (x : Applied). x.number) (filter t (filter_map pick ms)) ≡ map (λ (m : MarkedEntry). m.entry.number) (filter p ms)
filter_marked pick t p [] own agree = refl
filter_marked pick t p (m ∷ ms) own agree = grind (arith, filter_marked pick t p ms own agree)

-- ---- and their parts

pub filter_parts : (t : Applied → Bool) (p : MarkedEntry → Bool) (ms : List MarkedEntry) → ((m : MarkedEntry) → p m ≡ passes t (stands m))
    → parts_of_all (filter t (filter_map stands ms)) ≡ added_in (filter p ms)
filter_parts t p [] agree = refl
filter_parts t p (m ∷ ms) agree = grind (arith, filter_parts t p ms agree)

-- ---- the one of a number

pub find_marked : (pick : MarkedEntry → Option Applied) (n k : ℕ) (ms : List MarkedEntry) → IsOwn pick → IsNumbered n (entries_of ms)
    → find (λ x. x.number == k) (filter_map pick ms) ≡ option_and_then pick (find (λ m. m.entry.number == k) ms)
find_marked pick n k [] own h = refl
find_marked pick n k (m ∷ ms) own h = grind (arith, no_number, nat_tests, find_marked pick (n + 1) k ms own h.1)

-- ---- those of greater numbers

all_later : (pick : MarkedEntry → Option Applied) (k n : ℕ) (ms : List MarkedEntry) → IsOwn pick → k < n → IsNumbered n (entries_of ms)
    → later_than k (filter_map pick ms) ≡ filter_map pick ms
all_later pick k n [] own l h = refl
all_later pick k n (m ∷ ms) own l h = grind (arith, all_later pick k (n + 1) ms own (omega arith) h.1)

later_from : (pick : MarkedEntry → Option Applied) (k n : ℕ) (ms : List MarkedEntry) → IsOwn pick → IsNumbered (k + 1) (entries_of ms)
    → later_than (k + n) (filter_map pick ms) ≡ filter_map pick (drop n ms)
later_from pick k zero ms own h =
    ap (λ j. later_than j (filter_map pick ms)) (let e : k + 0 ≡ k = omega arith in e) ∙ all_later pick k (k + 1) ms own (omega arith) h
later_from pick k (suc n) [] own h = refl
later_from pick k (suc n) (m ∷ ms) own h = grind (arith, later_from pick (k + 1) n ms own h.1)

pub later_marked : (pick : MarkedEntry → Option Applied) (n : ℕ) (ms : List MarkedEntry) → IsOwn pick → IsNumbered 1 (entries_of ms)
    → later_than n (filter_map pick ms) ≡ filter_map pick (drop n ms)
later_marked pick n ms own h =
    ap (λ j. later_than j (filter_map pick ms)) (let e : n ≡ 0 + n = omega arith in e) ∙ later_from pick 0 n ms own h

-- ---- the entries of greater numbers

since_every : (k n : ℕ) (es : List Entry) → k < n → IsNumbered n es → since es k ≡ es
since_every k n [] l h = refl
since_every k n (e ∷ es) l h = grind (arith, since_every k (n + 1) es (omega arith) h.1)

since_from : (k n : ℕ) (es : List Entry) → IsNumbered (k + 1) es → since es (k + n) ≡ drop n es
since_from k zero es h = ap (since es) (let e : k + 0 ≡ k = omega arith in e) ∙ since_every k (k + 1) es (omega arith) h
since_from k (suc n) [] h = refl
since_from k (suc n) (e ∷ es) h = grind (arith, since_from (k + 1) n es h.1)

pub since-drop : (n : ℕ) (ms : List MarkedEntry) → IsNumbered 1 (entries_of ms) → entries_of (drop n ms) ≡ since (entries_of ms) n
since-drop n ms h = sym (ap (since (entries_of ms)) (let e : n ≡ 0 + n = omega arith in e) ∙ since_from 0 n (entries_of ms) h
    ∙ drop-map (λ (m : MarkedEntry). m.entry) n ms)
