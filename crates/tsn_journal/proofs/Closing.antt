-- The marks that a settle puts off, one after the other, and those that are off already.
use Rattle.std.proofs.Common.{◌≡◌, ℕ, zero, suc, ◌+◌, ◌<◌, ◌≤◌, true, false, cond, List, [], ◌∷◌, ◌++◌, refl, sym, ◌∙◌, ap, subst, arith, length, set, get_or, map}
use Rattle.std.specs.Prelude.{max}
use Rattle.std.proofs.lemmas.List.{length-map}
use Rattle.tsn_entries.specs.declared.entries.What.{What}
use Rattle.tsn_entries.specs.declared.entries.What.TheVariants.{Settled}
use Rattle.tsn_entries.specs.declared.entries.Entry.{Entry}
use Rattle.tsn_entries.specs.declared.entries.MarkedEntry.{MarkedEntry}
use Rattle.tsn_entries.specs.Entries.{IsNumbered, closes, settled, settles_to}
use Rattle.tsn_entries.specs.Marks.{AreOff, entries_of, mark_off}

abbrev off : MarkedEntry → MarkedEntry
off m = record { entry = m.entry; is_open = false }

-- ---- one mark more

-- a mark that is put off early is put off all the same
pub off_early : (n i upto : ℕ) (ms : List MarkedEntry) (m : MarkedEntry) → IsNumbered n (entries_of ms) → n + i ≤ upto → m ≡ get_or ms i m
    → map (mark_off (Settled upto)) (set ms i (off m)) ≡ map (mark_off (Settled upto)) ms
off_early n i upto [] m h le at = refl
off_early n zero upto (x ∷ ms) m h le at = grind arith
off_early n (suc i) upto (x ∷ ms) m h le at = ap (λ ys. mark_off (Settled upto) x ∷ ys) (off_early (n + 1) i upto ms m h.1 (omega arith) at)

-- the same of the one that stands there
pub off_there : (i upto : ℕ) (ms : List MarkedEntry) (d : MarkedEntry) → IsNumbered 1 (entries_of ms) → i < upto → d ≡ get_or ms i d
    → map (mark_off (Settled upto)) (set ms i (off (get_or ms i d))) ≡ map (mark_off (Settled upto)) ms
off_there i upto ms d h le at =
    ap (λ x. map (mark_off (Settled upto)) (set ms i (off x))) (sym at) ∙ off_early 1 i upto ms d h (omega arith) at

entries_set : (i : ℕ) (ms : List MarkedEntry) (m : MarkedEntry) → m ≡ get_or ms i m → entries_of (set ms i (off m)) ≡ entries_of ms
entries_set i [] m at = refl
entries_set zero (x ∷ ms) m at = ap (λ (y : MarkedEntry). y.entry ∷ entries_of ms) at
entries_set (suc i) (x ∷ ms) m at = ap (λ es. x.entry ∷ es) (entries_set i ms m at)

pub numbered_set : (i : ℕ) (ms : List MarkedEntry) (d : MarkedEntry) → d ≡ get_or ms i d → IsNumbered 1 (entries_of ms)
    → IsNumbered 1 (entries_of (set ms i (off (get_or ms i d))))
numbered_set i ms d at h = subst (IsNumbered 1) (sym (entries_set i ms d at) ∙ ap (λ x. entries_of (set ms i (off x))) at) h

pub one_off : (i : ℕ) (ms : List MarkedEntry) (m : MarkedEntry) → AreOff i ms → AreOff (suc i) (set ms i (off m))
one_off zero [] m h = tt
one_off zero (x ∷ ms) m h = (refl, tt)
one_off (suc i) [] m h = tt
one_off (suc i) (x ∷ ms) m h = (h.0, one_off i ms m h.1)

-- ---- all of them

-- where all that are settled are off, they are as they are to be
pub all_off : (n k upto : ℕ) (ms : List MarkedEntry) → IsNumbered n (entries_of ms) → AreOff k ms → upto < n + k
    → map (mark_off (Settled upto)) ms ≡ ms
all_off n k upto [] h o lt = refl
all_off n zero upto (m ∷ ms) h o lt = grind (arith, all_off (n + 1) zero upto ms h.1 tt (omega arith))
all_off n (suc k) upto (m ∷ ms) h o lt = grind (arith, all_off (n + 1) k upto ms h.1 o.1 (omega arith))

-- ---- what is off stays off

still_off : (w : What) (m : MarkedEntry) → m.is_open ≡ false → (mark_off w m).is_open ≡ false
still_off w m h = elim (closes w m.entry) as (λ b. (cond b (off m) m).is_open ≡ false) [ true ↦ refl | false ↦ h ]

pub off_map : (w : What) (k : ℕ) (ms : List MarkedEntry) → AreOff k ms → AreOff k (map (mark_off w) ms)
off_map w zero ms h = tt
off_map w (suc k) [] h = tt
off_map w (suc k) (m ∷ ms) h = (still_off w m h.0, off_map w k ms h.1)

pub off_append : (k : ℕ) (ms ns : List MarkedEntry) → k ≤ length ms → AreOff k ms → AreOff k (ms ++ ns)
off_append zero ms ns le h = tt
off_append (suc k) [] ns le h = absurd (omega arith)
off_append (suc k) (m ∷ ms) ns le h = (h.0, off_append k ms ns (omega arith) h.1)

-- the marks that a settle put off are off
settled_off : (n k upto : ℕ) (ms : List MarkedEntry) → IsNumbered n (entries_of ms) → n + k ≤ suc upto
    → AreOff k (map (mark_off (Settled upto)) ms)
settled_off n zero upto ms h le = tt
settled_off n (suc k) upto [] h le = tt
settled_off n (suc k) upto (m ∷ ms) h le = grind (arith, settled_off (n + 1) k upto ms h.1 (omega arith))

by_more : (k upto : ℕ) (P : ℕ → Type 0) → P k → P upto → P (max k upto)
by_more k upto P low high = grind arith

no_more : (k : ℕ) → k ≡ max k 0
no_more k = omega arith

more_off : (w : What) (k : ℕ) (ms : List MarkedEntry) → IsNumbered 1 (entries_of ms) → AreOff k ms
    → AreOff (max k (settles_to w)) (map (mark_off w) ms)
more_off w k ms n h = grind (arith, no_more, off_map, by_more, settled_off)

-- with one entry more, all up to the greatest number that was settled are off
pub off_pushed : (w : What) (k : ℕ) (ms : List MarkedEntry) (x : MarkedEntry) → IsNumbered 1 (entries_of ms) → k ≤ length ms
    → settles_to w ≤ length ms → AreOff k ms → AreOff (max k (settles_to w)) (map (mark_off w) ms ++ x ∷ [])
off_pushed w k ms x numbered there settles h = grind (arith, off_append, length-map, more_off)

pub settled_push : (es : List Entry) (e : Entry) → settled (es ++ e ∷ []) ≡ max (settled es) (settles_to e.what)
settled_push [] e = omega arith
settled_push (x ∷ es) e = ap (max (settles_to x.what)) (settled_push es e)
    ∙ (let a : max (settles_to x.what) (max (settled es) (settles_to e.what)) ≡ max (max (settles_to x.what) (settled es))
    (settles_to e.what) = omega arith in a)
