-- The latest cycle start that took place, once an apply is one act more.
use Rattle.std.proofs.Common.{◌≡◌, ◌<◌, ◌≤◌, ◌+◌, ◌-◌, ◌/◌, ◌%◌, ℕ, zero, suc, refl, arith, true, false, cond, ltb, min, Some, ◌∙◌, inl, inr, ◌⊎◌}
use Rattle.std.proofs.lemmas.Grind.{common_steps}
use Rattle.std.proofs.Math.Nat.{div-zero, mod-zero}
use Rattle.std.proofs.lemmas.Bool.{le-ltb, lt-ltb, cases_lt}
use Rattle.tsn_types.specs.declared.records.Schedule.{Schedule}
use Rattle.tsn_schedule.specs.Acts.{Apply}
use Rattle.tsn_schedule.specs.Running.{start_by, last_free}
use Rattle.tsn_schedule.specs.Starts.{Start, followed_by, start_of}
use Rattle.tsn_schedule.specs.States.{nominal, is_held_back, latest_of, cycle_start}
use Rattle.tsn_schedule.specs.Times.{change_of}
use Rattle.tsn_schedule.proofs.Numbers.{grid, fits, past, quotient_le, nominal_le}

-- With no act after it, each nominal start takes place.
pub plain : {E : Type 0} (schedule : Schedule E) (a k : ℕ) → latest_of (start_of a schedule) k ≡ nominal (start_of a schedule) k
plain schedule a k = grind arith

pub latest_suc : {E : Type 0} (start : Start E) (k : ℕ)
    → latest_of start (suc k) ≡ cond (is_held_back start (nominal start (suc k))) (latest_of start k) (nominal start (suc k))
latest_suc start k = refl

-- The one that took place is a nominal one.
on_grid : {E : Type 0} (start : Start E) (k : ℕ) → (i : ℕ) × (i ≤ k) × (latest_of start k ≡ nominal start i)
on_grid start zero = (0, omega arith, omega arith)
on_grid start (suc k) =
    elim (is_held_back start (nominal start (suc k))) as
    (λ b. (i : ℕ) × (i ≤ suc k) × (cond b (latest_of start k) (nominal start (suc k)) ≡ nominal start i)) [
      | true ↦ ((on_grid start k).0, omega (arith, (on_grid start k).1), (on_grid start k).2)
      | false ↦ (suc k, omega arith, refl)
    ]

-- Nominal starts that are all held back.
skip : {E : Type 0} (start : Start E) (k j : ℕ) → ((i : ℕ) → k < i → i ≤ j → is_held_back start (nominal start i) ≡ true) → k ≤ j
    → latest_of start j ≡ latest_of start k
skip start k zero held h = let z : k ≡ 0 = omega arith in rw z refl
skip start k (suc j) held h =
    elim (cases_lt k (suc j)) [
      | inl lt ↦ rw (latest_suc start j, held (suc j) lt (omega arith)) (skip start k j (λ i l m. held i l (omega arith)) (omega arith))
      | inr ge ↦ let z : k ≡ suc j = omega arith in rw z refl
    ]

-- An apply at a leaves alone what was decided up to a.
same_before : {E : Type 0} (start : Start E) (schedule : Schedule E) (a k : ℕ) → nominal start k ≤ a
    → latest_of (followed_by (Apply schedule a) start) k ≡ latest_of start k
same_before start schedule a zero h = refl
same_before start schedule a (suc k) h =
    let off : ltb a (nominal start (suc k)) ≡ false = le-ltb a (nominal start (suc k)) h in
    let same : is_held_back (followed_by (Apply schedule a) start) (nominal start (suc k)) ≡ is_held_back start (nominal start (suc k)) = rw
    off refl in
    let before : nominal start k ≤ a = omega arith in
    rw (latest_suc (followed_by (Apply schedule a) start) k, latest_suc start k, same, same_before start schedule a k before) refl

-- A start whose cycles have a length, in force at a; from a on up to t, which is before the change time of a schedule applied at a.
record IsAhead {E : Type 0} (start : Start E) (schedule : Schedule E) (a t : ℕ) : Type 0 where
  some : 0 < start.schedule.cycle
  began : start.change ≤ a
  order : a ≤ t
  before : t < change_of schedule.base schedule.cycle a

-- Nominal starts after a: those within the extension before the change are held back, those before that are free.
held : {E : Type 0} (start : Start E) (schedule : Schedule E) (a n : ℕ) → a < n → n < change_of schedule.base schedule.cycle a
    → change_of schedule.base schedule.cycle a ≤ n + start.schedule.extension → is_held_back (followed_by (Apply schedule a) start) n ≡ true
held start schedule a n h lt le = grind arith

free_took : {E : Type 0} (start : Start E) (schedule : Schedule E) (a k : ℕ) → start.change ≤ a → a < nominal start k
    → nominal start k + start.schedule.extension < change_of schedule.base schedule.cycle a
    → latest_of (followed_by (Apply schedule a) start) k ≡ nominal start k
free_took start schedule a k began late gt = grind arith

-- Number k took place, and each later one up to t comes after a and after the free time w: so it is the latest by t.
back_to : {E : Type 0} (start : Start E) (schedule : Schedule E) (a t w k : ℕ) → IsAhead start schedule a t
    → w ≡ min t (change_of schedule.base schedule.cycle a - (start.schedule.extension + 1))
    → ((i : ℕ) → k < i → a < nominal start i) → ((i : ℕ) → k < i → w < nominal start i)
    → k ≤ (t - start.change) / start.schedule.cycle
    → cycle_start (followed_by (Apply schedule a) start) t ≡ latest_of (followed_by (Apply schedule a) start) k
back_to start schedule a t w k r w_is late past_free le = grind (arith, common_steps, skip, fits, held)

-- The one known by a stays.
stays : {E : Type 0} (start : Start E) (schedule : Schedule E) (a t w : ℕ) → IsAhead start schedule a t
    → w ≡ min t (change_of schedule.base schedule.cycle a - (start.schedule.extension + 1))
    → ((i : ℕ) → a < nominal start i → w < nominal start i)
    → w - (w - cycle_start start a) % start.schedule.cycle ≤ a
    → cycle_start (followed_by (Apply schedule a) start) t ≡ start_by start.schedule.cycle (cycle_start start a) a w
stays start schedule a t w r w_is past_free small =
    let k : ℕ = (a - start.change) / start.schedule.cycle in
    let late : (i : ℕ) → k < i → a < nominal start i = λ i lo. past start.change i start.schedule.cycle a r.some r.began lo in
    let up : nominal start k ≤ a = fits start.change k start.schedule.cycle a r.some r.began (omega arith) in
    back_to start schedule a t w k r w_is late (λ i lo. past_free i (late i lo))
    (quotient_le start.change start.schedule.cycle a t r.some r.began r.order)
    ∙ same_before start schedule a k up
    ∙ rw (le-ltb a (w - (w - cycle_start start a) % start.schedule.cycle) small) refl

-- A later one took place: number k.
moves : {E : Type 0} (start : Start E) (schedule : Schedule E) (a t w k : ℕ) → IsAhead start schedule a t
    → w ≡ min t (change_of schedule.base schedule.cycle a - (start.schedule.extension + 1))
    → start.change ≤ w → k ≡ (w - start.change) / start.schedule.cycle
    → a < nominal start k
    → latest_of (followed_by (Apply schedule a) start) k ≡ nominal start k
    → cycle_start (followed_by (Apply schedule a) start) t ≡ nominal start k
moves start schedule a t w k r w_is cw k_is late took =
    back_to start schedule a t w k r w_is
    (λ i lo. let le : nominal start k ≤ nominal start i = nominal_le start.change start.schedule.cycle k i (omega arith) in omega arith)
    (λ i lo. past start.change i start.schedule.cycle w r.some cw (omega arith))
    (let le : (w - start.change) / start.schedule.cycle ≤ (t - start.change) / start.schedule.cycle = quotient_le start.change
    start.schedule.cycle w t r.some cw (omega arith) in omega arith)
    ∙ took

-- The two cases of a free time that reaches the one known.
after_grid : {E : Type 0} (start : Start E) (schedule : Schedule E) (a t w i k : ℕ) → IsAhead start schedule a t
    → w ≡ min t (change_of schedule.base schedule.cycle a - (start.schedule.extension + 1))
    → cycle_start start a ≡ nominal start i → nominal start i ≤ w
    → k ≡ (w - start.change) / start.schedule.cycle
    → (a < nominal start k) ⊎ (nominal start k ≤ a)
    → cycle_start (followed_by (Apply schedule a) start) t ≡ start_by start.schedule.cycle (cycle_start start a) a w
after_grid start schedule a t w i k r w_is e later k_is (inl late) = grind (arith, fits, grid, free_took, moves, lt-ltb)
after_grid start schedule a t w i k r w_is e later k_is (inr early) =
    let cw : start.change ≤ w = omega arith in
    let at_grid : w - (w - cycle_start start a) % start.schedule.cycle ≡ nominal start k = rw (k_is, e)
    (grid start.change i start.schedule.cycle w later) in
    stays start schedule a t w r w_is
    (λ j lt. elim (cases_lt k j) [
      | inl more ↦ past start.change j start.schedule.cycle w r.some cw (omega arith)
      | inr le ↦ let below : nominal start j ≤ nominal start k = nominal_le start.change start.schedule.cycle j k le in absurd (omega arith)
    ])
    (omega arith)

after : {E : Type 0} (start : Start E) (schedule : Schedule E) (a t w i : ℕ) → IsAhead start schedule a t
    → w ≡ min t (change_of schedule.base schedule.cycle a - (start.schedule.extension + 1))
    → cycle_start start a ≡ nominal start i → nominal start i ≤ a
    → (w < nominal start i) ⊎ (nominal start i ≤ w)
    → cycle_start (followed_by (Apply schedule a) start) t ≡ start_by start.schedule.cycle (cycle_start start a) a w
after start schedule a t w i r w_is e up h = grind (arith, stays, after_grid, cases_lt)

-- A cycle without a length starts once.
once : (c a w : ℕ) → c ≤ a → c ≡ start_by 0 c a w
once c a w h = let le : w - (w - c) % 0 ≤ a = rw (mod-zero (w - c)) (omega arith) in rw (le-ltb a (w - (w - c) % 0) le) refl

never_again : {E : Type 0} (start : Start E) (t : ℕ) → start.schedule.cycle ≡ 0 → cycle_start start t ≡ start.change
never_again start t z = rw (z, div-zero (t - start.change)) refl

-- The latest cycle start by t, after an apply at a, from the latest one by a.
pub after_apply : {E : Type 0} (start : Start E) (schedule : Schedule E) (a t : ℕ) → start.change ≤ a → a ≤ t
    → t < change_of schedule.base schedule.cycle a
    → cycle_start (followed_by (Apply schedule a) start) t ≡ start_by start.schedule.cycle (cycle_start start a) a
    (last_free start.schedule.extension (Some (change_of schedule.base schedule.cycle a)) t)
after_apply start schedule a t ca at tc =
    elim (cases_lt 0 start.schedule.cycle) [
      | inl some ↦
          let g : (i : ℕ) × (i ≤ (a - start.change) / start.schedule.cycle)
          × (cycle_start start a ≡ nominal start i) = on_grid start ((a - start.change) / start.schedule.cycle) in
          after start schedule a t (min t (change_of schedule.base schedule.cycle a - (start.schedule.extension + 1))) g.0
          (record { some = some; began = ca; order = at; before = tc }) refl g.2
          (fits start.change g.0 start.schedule.cycle a some ca g.1)
          (cases_lt (min t (change_of schedule.base schedule.cycle a - (start.schedule.extension + 1))) (nominal start g.0))
      | inr le ↦
          let z : start.schedule.cycle ≡ 0 = omega arith in
          never_again (followed_by (Apply schedule a) start) t z
          ∙ rw (never_again start a z, z)
          (once start.change a (min t (change_of schedule.base schedule.cycle a - (start.schedule.extension + 1))) ca)
    ]
