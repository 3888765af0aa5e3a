-- The last entry that passes either of two tests is the later of the two last.
use Rattle.std.proofs.Common.{◌≡◌, ℕ, ◌+◌, ◌<◌, ◌≤◌, Bool, cond, ◌||◌, List, [], ◌∷◌, refl, ap, Option, Some, None, arith}
use Rattle.std.specs.Prelude.{option_map}
use Rattle.std.specs.Option.{option_or}
use Rattle.tsn_entries.specs.declared.entries.MarkedEntry.{MarkedEntry}
use Rattle.tsn_entries.specs.Entries.{IsNumbered}
use Rattle.tsn_entries.specs.Finding.{last_where}
use Rattle.tsn_entries.specs.Marks.{entries_of, later_of}
use Rattle.tsn_journal.proofs.Finders.{last_of_two}

pub no_lower : (t : MarkedEntry → Bool) (n : ℕ) (ms : List MarkedEntry) (m : MarkedEntry) → IsNumbered n (entries_of ms)
    → last_where t ms ≡ Some m → n ≤ m.entry.number
no_lower t n [] m h is = (cc)
no_lower t n (x ∷ ms) m h is =
    let first : x.entry.number ≡ n = h.0 in
    last_of_two (last_where t ms) (t x) x m (n ≤ m.entry.number) is
    (λ here same. let number : x.entry.number ≡ m.entry.number = ap (λ (y : MarkedEntry). y.entry.number) same in omega arith)
    (λ later. let above : n + 1 ≤ m.entry.number = no_lower t (n + 1) ms m h.1 later in omega arith)

abbrev one : Bool → MarkedEntry → Option MarkedEntry
one b m = cond b (Some m) None

abbrev at : Option MarkedEntry → Option ℕ
at o = option_map (λ m. m.entry.number) o

either_last : (a b : Option MarkedEntry) (c : Option MarkedEntry) (x : MarkedEntry) (u v : Bool)
    → ((y : MarkedEntry) → a ≡ Some y → x.entry.number < y.entry.number)
    → ((y : MarkedEntry) → b ≡ Some y → x.entry.number < y.entry.number)
    → at c ≡ later_of (at a) (at b) → at (option_or c (one (u || v) x)) ≡ later_of (at (option_or a (one u x))) (at (option_or b (one v x)))
either_last a b c x u v la lb h = grind arith

pub last_either : (p q : MarkedEntry → Bool) (n : ℕ) (ms : List MarkedEntry) → IsNumbered n (entries_of ms)
    → at (last_where (λ m. p m || q m) ms) ≡ later_of (at (last_where p ms)) (at (last_where q ms))
last_either p q n [] h = refl
last_either p q n (x ∷ ms) h = grind (arith, either_last, no_lower, last_either p q (n + 1) ms h.1)
