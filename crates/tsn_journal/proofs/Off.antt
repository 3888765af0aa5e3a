-- The first entries, whose marks are off, belong to no group of what stands.
use Rattle.std.proofs.Common.{◌≡◌, ℕ, zero, suc, ◌+◌, ◌-◌, ◌<◌, ◌≤◌, Bool, false, cond, List, [], ◌∷◌, ◌++◌, take, sym, ◌∙◌, ap, Some, None, arith, drop, filter}
use Rattle.std.proofs.lemmas.Grind.{common_steps}
use Rattle.std.specs.List.{slice_get}
use Rattle.std.proofs.Math.Seq.{drop-nil}
use Rattle.std.proofs.lemmas.List.{take-append-drop}
use Rattle.std.proofs.lemmas.List.Elements.{filter-append}
use Rattle.tsn_types.specs.declared.keys.Key.{Key}
use Rattle.tsn_entries.specs.Entries.{adds}
use Rattle.tsn_entries.specs.declared.entries.MarkedEntry.{MarkedEntry}
use Rattle.tsn_journal.specs.declared.groups.Group.TheVariants.{On, RefersTo, Of}
use Rattle.tsn_journal.specs.declared.index.Node.{Node}
use Rattle.tsn_journal.specs.Index.{NoneBetween, belongs, is_on, number_at, refers}
use Rattle.tsn_entries.specs.Marks.{AreOff, is_own}
use Rattle.tsn_journal.proofs.Walking.{filter_gap}

pub off_at : (n : ℕ) (ms : List MarkedEntry) → AreOff n ms → (i : ℕ) (m : MarkedEntry) → i < n → slice_get ms i ≡ Some m → m.is_open ≡ false
off_at zero ms h i m lt at = absurd (omega arith)
off_at (suc n) [] h i m lt at = (cc)
off_at (suc n) (x ∷ ms) h zero m lt at = (cc)
off_at (suc n) (x ∷ ms) h (suc i) m lt at = off_at n ms h.1 i m (omega arith) at

pub none_on : (k : Key) (n : ℕ) (ms : List MarkedEntry) → AreOff n ms → NoneBetween (belongs (On k)) ms 0 (n + 1)
none_on k n ms h i m low lt at = ap (λ b. is_on k (cond b (adds m.entry.what) None)) (off_at n ms h i m (omega arith) at)

pub none_refers : (k : Key) (n : ℕ) (ms : List MarkedEntry) → AreOff n ms → NoneBetween (belongs (RefersTo k)) ms 0 (n + 1)
none_refers k n ms h i m low lt at = ap (λ b. refers k (cond b (adds m.entry.what) None)) (off_at n ms h i m (omega arith) at)

pub none_own : (s n : ℕ) (ms : List MarkedEntry) → AreOff n ms → NoneBetween (belongs (Of s)) ms 0 (n + 1)
none_own s n ms h i m low lt at = ap (λ b. is_own s (record { entry = m.entry; is_open = b })) (off_at n ms h i m (omega arith) at)

-- so a walk back along the session's entries may end at the first node up to there
pub none_before : (s n : ℕ) (ms : List MarkedEntry) (ps : List Node) (j : ℕ) → AreOff n ms → number_at ps j ≤ n
    → filter (belongs (Of s)) (drop (number_at ps j) ms) ≡ filter (belongs (Of s)) ms
none_before s n ms ps j h le =
    sym (filter_gap (belongs (Of s)) ms 0 (number_at ps j) (omega arith) (λ i x low lt at. none_own s n ms h i x low (omega arith) at))

drop_twice : {A : Type 0} (k n : ℕ) (xs : List A) → drop k (drop n xs) ≡ drop (n + k) xs
drop_twice k n xs = grind (arith, common_steps, drop-nil)

-- those after the place of a number are those from there on, and those between it and the ones that are off
pub own_split : (s off n : ℕ) (ms : List MarkedEntry) → AreOff off ms → off ≤ n
    → filter (belongs (Of s)) (take (n - off) (drop off ms)) ++ filter (belongs (Of s)) (drop n ms) ≡ filter (belongs (Of s)) ms
own_split s off n ms h le =
    let t : MarkedEntry → Bool = belongs (Of s) in
    ap (λ xs. filter t (take (n - off) (drop off ms)) ++ filter t xs)
    (sym (drop_twice (n - off) off ms ∙ ap (λ k. drop k ms) (let e : off + (n - off) ≡ n = omega arith in e)))
    ∙ sym (filter-append t (take (n - off) (drop off ms)) (drop (n - off) (drop off ms)))
    ∙ ap (filter t) (take-append-drop (n - off) (drop off ms))
    ∙ sym (filter_gap t ms 0 off (omega arith) (λ i x low lt at. none_own s off ms h i x low (omega arith) at))
