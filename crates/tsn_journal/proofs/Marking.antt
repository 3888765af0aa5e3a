-- The marks of entries: which one a new entry puts off, and what the others say.
use Rattle.std.proofs.Common.{◌≡◌, ℕ, zero, suc, ◌+◌, ◌<◌, ◌≤◌, ◌⊎◌, inl, inr, Bool, true, false, cond, ◌||◌, not, List, [], ◌∷◌, ◌++◌, refl, sym, ◌∙◌, ap, Some, None, arith, length, set, get_or, map, take}
use Rattle.std.specs.Prelude.{◌==◌, option_map}
use Rattle.std.specs.List.{find}
use Rattle.std.proofs.lemmas.List.{map-append, length-map, length-append, take-append-le, take_all}
use Rattle.std.proofs.lemmas.List.Folds.{list_any-append}
use Rattle.std.proofs.lemmas.Bool.{eq-eqb}
use Rattle.std.proofs.Math.Bool.{or-false}
use Rattle.tsn_entries.specs.declared.entries.What.{What}
use Rattle.tsn_entries.specs.declared.entries.Entry.{Entry}
use Rattle.tsn_entries.specs.declared.entries.MarkedEntry.{MarkedEntry}
use Rattle.tsn_entries.specs.Entries.{IsNoSettle, IsNumbered, closes, is_closed, names, with_entry}
use Rattle.tsn_entries.specs.Marks.{AreMarked, IsJournal, entries_of, mark_off}

-- ---- looking a number up

pub found_number : (n i k : ℕ) (ms : List MarkedEntry) (m : MarkedEntry) → IsNumbered n (entries_of ms) → n + i ≡ k → i < length ms
    → m ≡ get_or ms i m → find (λ x. x.entry.number == k) ms ≡ Some m
found_number n i k [] m h e l at = absurd (omega arith)
found_number n zero k (x ∷ ms) m h e l at =
    ap (λ b. cond b (Some x) (find (λ y. y.entry.number == k) ms)) (eq-eqb x.entry.number k (h.0 ∙ (let f : n ≡ k = omega arith in f)))
    ∙ ap Some (sym at)
found_number n (suc i) k (x ∷ ms) m h e l at = grind (arith, found_number (n + 1) i k ms m h.1 (omega arith) (omega arith) at)

pub no_number : (n k : ℕ) (ms : List MarkedEntry) → IsNumbered n (entries_of ms) → (k < n) ⊎ (n + length ms ≤ k)
    → find (λ x. x.entry.number == k) ms ≡ None
no_number n k [] h out = refl
no_number n k (x ∷ ms) h (inl low) = grind (arith, no_number (n + 1) k ms h.1 (inl (omega arith)))
no_number n k (x ∷ ms) h (inr high) = grind (arith, no_number (n + 1) k ms h.1 (inr (omega arith)))

pub find_entry : (k : ℕ) (ms : List MarkedEntry)
    → option_map (λ (m : MarkedEntry). m.entry) (find (λ m. m.entry.number == k) ms) ≡ find (λ e. e.number == k) (entries_of ms)
find_entry k [] = refl
find_entry k (m ∷ ms) = grind (arith, find_entry k ms)

-- ---- the mark that is put off

abbrev off : Bool → MarkedEntry → MarkedEntry
off b m = cond b (record { entry = m.entry; is_open = false }) m

nothing_off : (w : What) (e : Entry) → IsNoSettle w → names w ≡ None → closes w e ≡ false
nothing_off w e plain is = grind arith

pub all_stay : (w : What) (ms : List MarkedEntry) → IsNoSettle w → names w ≡ None → map (mark_off w) ms ≡ ms
all_stay w [] plain is = refl
all_stay w (m ∷ ms) plain is =
    ap (λ b. off b m ∷ map (mark_off w) ms) (nothing_off w m.entry plain is) ∙ ap (λ xs. m ∷ xs) (all_stay w ms plain is)

pub out_of_reach : (n k : ℕ) (w : What) (ms : List MarkedEntry) → names w ≡ Some k → IsNumbered n (entries_of ms)
    → (k < n) ⊎ (n + length ms ≤ k) → map (mark_off w) ms ≡ ms
out_of_reach n k w [] is h out = refl
out_of_reach n k w (m ∷ ms) is h (inl low) = grind (arith, out_of_reach (n + 1) k w ms is h.1 (inl (omega arith)))
out_of_reach n k w (m ∷ ms) is h (inr high) = grind (arith, out_of_reach (n + 1) k w ms is h.1 (inr (omega arith)))

pub off_at : (n i k : ℕ) (w : What) (ms : List MarkedEntry) (m : MarkedEntry) → names w ≡ Some k → IsNumbered n (entries_of ms) → n + i ≡ k
    → m ≡ get_or ms i m → map (mark_off w) ms ≡ set ms i (mark_off w m)
off_at n i k w [] m is h e at = refl
off_at n zero k w (x ∷ ms) m is h e at =
    ap (λ y. mark_off w y ∷ map (mark_off w) ms) (sym at)
    ∙ ap (λ xs. mark_off w m ∷ xs) (out_of_reach (n + 1) k w ms is h.1 (inl (omega arith)))
off_at n (suc i) k w (x ∷ ms) m is h e at = grind (arith, off_at (n + 1) i k w ms m is h.1 (omega arith) at)

-- the entries with the mark at the place as it is to be
pub set_at : (w : What) (ms : List MarkedEntry) (place k : ℕ) (d : MarkedEntry) (b : Bool) → names w ≡ Some k → IsNumbered 1 (entries_of ms)
    → place + 1 ≡ k → d ≡ get_or ms place d → closes w (get_or ms place d).entry ≡ b
    → set ms place (off b (get_or ms place d)) ≡ map (mark_off w) ms
set_at w ms place k d b is h next at taken = grind (arith, off_at)

-- ---- one entry more

pub entry_stays : (w : What) (m : MarkedEntry) → (mark_off w m).entry ≡ m.entry
entry_stays w m = elim (closes w m.entry) as (λ b. (off b m).entry ≡ m.entry) [ true ↦ refl | false ↦ refl ]

pub entries_stay : (w : What) (ms : List MarkedEntry) → entries_of (map (mark_off w) ms) ≡ entries_of ms
entries_stay w [] = refl
entries_stay w (m ∷ ms) = (λ i. entry_stays w m i ∷ entries_stay w ms i)

abbrev pub new_entry : List MarkedEntry → ℕ → What → MarkedEntry
new_entry ms s w = record { entry = record { number = length ms + 1; session = s; what = w }; is_open = true }

pub entries_pushed : (ms : List MarkedEntry) (s : ℕ) (w : What)
    → entries_of (map (mark_off w) ms ++ new_entry ms s w ∷ []) ≡ with_entry (entries_of ms) s w
entries_pushed ms s w = grind (arith, map-append, entries_stay, length-map)

numbered_push : (n : ℕ) (es : List Entry) (e : Entry) → IsNumbered n es → e.number ≡ n + length es → IsNumbered n (es ++ e ∷ [])
numbered_push n [] e h is = (is ∙ (let f : n + 0 ≡ n = omega arith in f), tt)
numbered_push n (x ∷ es) e h is =
    (h.0, numbered_push (n + 1) es e h.1 (is ∙ (let f : n + length (x ∷ es) ≡ (n + 1) + length es = omega arith in f)))

pub IsNumbered-with_entry : (es : List Entry) (s : ℕ) (w : What) → IsNumbered 1 es → IsNumbered 1 (with_entry es s w)
IsNumbered-with_entry es s w h = numbered_push 1 es (record { number = length es + 1; session = s; what = w }) h (omega arith)

not_or : (o a b : Bool) → o ≡ not a → cond b false o ≡ not (a || b)
not_or o a b h = grind arith

pub is_closed-push : (e : Entry) (es : List Entry) (w : Entry) → is_closed e (es ++ w ∷ []) ≡ (is_closed e es || closes w.what e)
is_closed-push e es w = list_any-append (λ x. closes x.what e) es (w ∷ []) ∙ ap (λ b. is_closed e es || b) (or-false (closes w.what e))

mark_now : (w : What) (m : MarkedEntry) → (mark_off w m).is_open ≡ cond (closes w m.entry) false m.is_open
mark_now w m = elim (closes w m.entry) as (λ b. (off b m).is_open ≡ cond b false m.is_open) [ true ↦ refl | false ↦ refl ]

marked_push : (ms : List MarkedEntry) (x : MarkedEntry) → x.is_open ≡ true → AreMarked ms
    → AreMarked (map (mark_off x.entry.what) ms ++ x ∷ [])
marked_push [] x open' h = (open', tt)
marked_push (m ∷ ms) x open' h =
    grind (arith, map-append, entries_stay, mark_now, not_or, is_closed-push, entry_stays, marked_push ms x open' h.1)

pub journal_push : (ms : List MarkedEntry) (s : ℕ) (w : What) (ns : List MarkedEntry) → IsJournal ms → length ms < 262144
    → ns ≡ map (mark_off w) ms ++ new_entry ms s w ∷ [] → IsJournal ns
journal_push ms s w ns is room pushed = rw pushed (record {
  numbered = rw (entries_pushed ms s w) (IsNumbered-with_entry (entries_of ms) s w is.numbered);
  marked = marked_push ms (new_entry ms s w) refl is.marked;
  few = omega (arith, length-append (map (mark_off w) ms) (new_entry ms s w ∷ []), length-map ms (mark_off w));
})

-- what a vector holds after a push in its room, once the mark is off
pub pushed_items : (w : What) (s len n : ℕ) (ms rest off' now : List MarkedEntry) → length ms ≡ len → n ≡ len → off' ≡ map (mark_off w) ms
    → now ≡ take len (off' ++ rest) ++ record { entry = record { number = n + 1; session = s; what = w }; is_open = true } ∷ []
    → now ≡ map (mark_off w) ms ++ new_entry ms s w ∷ []
pushed_items w s len n ms rest off' now same count is pushed = grind (arith, length-map, take-append-le, take_all)
