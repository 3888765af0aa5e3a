-- The entry at an offset, found by where the entries begin.
use Rattle.std.proofs.Common.{◌≡◌, ◌<◌, ◌≤◌, ◌-◌, ◌^◌, ℕ, zero, suc, refl, ap, arith, inl, inr, length, take, get_or, List, [], ◌∷◌}
use Rattle.std.specs.Prelude.{slice_get}
use Rattle.std.specs.List.{sum_by}
use Rattle.std.specs.List.Sorted.{IsNonDecreasing}
use Rattle.std.proofs.lemmas.List.Sums.{sum_by-cons}
use Rattle.std.proofs.lemmas.List.Sorted.{IsNonDecreasingBy-from_default}
use Rattle.std.proofs.lemmas.Bool.{cases_lt, le-ltb}
use Rattle.tsn_schedule.specs.Begins.{AreBegins}
use Rattle.tsn_schedule.specs.Entries.{entry_at, earlier_at}

-- an entry that begins by the offset, while the next one begins later
pub record IsAt {E : Type 0} (interval : E → ℕ) (list : List E) (offset i : ℕ) : Type 0 where
  pub within : i < length list
  pub from : sum_by interval (take i list) ≤ offset
  pub to : suc i < length list → offset < sum_by interval (take (suc i) list)

later : {E : Type 0} (interval : E → ℕ) (x : E) (list : List E) (offset i : ℕ) → IsAt interval (x ∷ list) offset (suc i)
    → IsAt interval list (offset - interval x) i
later interval x list offset i at = grind (arith, sum_by-cons)

-- it is the entry at the offset, and those ahead of it are the earlier ones
only : {E : Type 0} (interval : E → ℕ) (list : List E) (offset i : ℕ) → IsAt interval list offset i
    → (entry_at interval list offset ≡ slice_get list i) × (earlier_at interval list offset ≡ sum_by interval (take i list))
only interval [] offset i at = absurd (omega (arith, at.within))
only interval (x ∷ []) offset zero at = (refl, refl)
only interval (x ∷ []) offset (suc i) at = absurd (omega (arith, at.within))
only interval (x ∷ y ∷ list) offset zero at = (grind arith, grind arith)
only interval (x ∷ y ∷ list) offset (suc i) at =
    let sum = sum_by-cons interval x (take i (y ∷ list)) in
    let more = only interval (y ∷ list) (offset - interval x) i (later interval x (y ∷ list) offset i at) in
    rw (le-ltb offset (interval x) (omega (arith, at.from, sum))) (more.0, omega (arith, more.1, sum))

pub only_entry : {E : Type 0} (interval : E → ℕ) (list : List E) (offset i : ℕ) → IsAt interval list offset i
    → entry_at interval list offset ≡ slice_get list i
only_entry interval list offset i at = (only interval list offset i at).0

pub only_earlier : {E : Type 0} (interval : E → ℕ) (list : List E) (offset i : ℕ) → IsAt interval list offset i
    → earlier_at interval list offset ≡ sum_by interval (take i list)
only_earlier interval list offset i at = (only interval list offset i at).1

-- sums rise
sums_rise : {E : Type 0} (interval : E → ℕ) (list : List E) (i j : ℕ) → i ≤ j
    → sum_by interval (take i list) ≤ sum_by interval (take j list)
sums_rise interval [] i zero h = let z : i ≡ 0 = omega arith in rw z (omega arith)
sums_rise interval [] zero (suc j) h = omega arith
sums_rise interval [] (suc i) (suc j) h = omega arith
sums_rise interval (x ∷ list) zero j h = omega arith
sums_rise interval (x ∷ list) (suc i) zero h = absurd (omega arith)
sums_rise interval (x ∷ list) (suc i) (suc j) h = grind (arith, sum_by-cons, (sums_rise interval list i j (omega arith)))

module _ {E : Type 0} (interval : E → ℕ) (list : List E) (begins : List ℕ) (are : AreBegins interval list begins) where
  pub begins_rise : IsNonDecreasing begins
  begins_rise =
      IsNonDecreasingBy-from_default (λ x. x) begins 0
      (λ i j h lt. omega (arith, are.each i (omega arith), are.each j lt, sums_rise interval list i j h))

  -- the last entry that begins by an offset
  pub last_begun : (seen : List ℕ) (offset begun : ℕ) → seen ≡ begins → offset < 2 ^ 64 → (begun ≡ 0 → ⊥) → begun ≤ length seen
      → ((k : ℕ) → k < begun → get_or seen k 0 ≤ offset) → ((k : ℕ) → begun ≤ k → k < length seen → offset < get_or seen k 0)
      → IsAt interval list offset (begun - 1)
  last_begun seen offset begun same small some within before after =
      let as_many : length seen ≡ length begins = ap length same in
      let from : get_or begins (begun - 1) 0 ≤ offset = rw (← same) (before (begun - 1) (omega arith)) in
      let to : (suc (begun - 1) < length begins → offset < get_or begins (suc (begun - 1)) 0) = λ more.
      rw (← same) (after (suc (begun - 1)) (omega arith) (omega arith)) in
      record {
        within = omega (arith, are.within);
        from = omega (arith, are.each (begun - 1) (omega arith));
        to = λ more. elim (cases_lt (suc (begun - 1)) (length begins)) [
          | inl lt ↦ omega (arith, are.each (suc (begun - 1)) lt, to lt)
          | inr le ↦ let last : suc (begun - 1) ≡ length begins = omega arith in rw last (omega (arith, are.left_out (omega arith)))
        ];
      }
