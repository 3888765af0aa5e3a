-- What the definitions mean, in other words.
use Rattle.std.proofs.Common.{◌≡◌, ◌<◌, ◌≤◌, ◌+◌, ◌-◌, ◌*◌, ◌/◌, ℕ, zero, suc, refl, arith, Bool, true, false, not, cond, ltb, leb, length, take, map, List, [], ◌∷◌, ◌++◌, Option, Some, None, sym, ◌∙◌, ap, inl, inr, ◌≢◌, MatchOption}
use Rattle.std.specs.Prelude.{option_to_list}
use Rattle.std.specs.List.{find, list_any}
use Rattle.std.specs.Option.{option_map, option_map_or, option_and_then}
use Rattle.std.proofs.lemmas.Bool.{le-ltb, lt-ltb, cases_lt, and_parts, or_parts, leb-true, not-true}
use Rattle.std.proofs.lemmas.List.Sums.{sum_by-cons}
use Rattle.std.proofs.Math.Nat.{mul_comm}
use Rattle.tsn_types.specs.declared.records.Schedule.{Schedule}
use Rattle.tsn_schedule.specs.Acts.{Act, Enable, Disable, Apply, IsHistory, is_enabled}
use Rattle.tsn_schedule.specs.Entries.{entry_at, earlier_at}
use Rattle.tsn_schedule.specs.Meaning.{IsChangeTime, IsLatestStart, IsEntryAt}
use Rattle.tsn_schedule.specs.Counters.{change_in, is_pending, errors_in, greatest_count}
use Rattle.tsn_schedule.specs.Starts.{Start, starts, begun, start_of, followed_by, took_place, is_void, is_voiding, unless_ended, in_force}
use Rattle.tsn_schedule.specs.States.{is_apply_before, is_held_back, nominal, latest_of, cycle_start}
use Rattle.tsn_schedule.specs.Times.{change_of}
use Rattle.tsn_schedule.proofs.Numbers.{reached, fits, past, nominal_le}
use Rattle.tsn_schedule.proofs.Recur.{find-map, found, open_some, through, after_enable, disabled_none, ended_none}

-- The change time is the least instant of the base's grid that isn't before a.
least : (base y a n : ℕ) → 0 < y → a ≤ base + n * y → change_of base y a ≤ base + n * y
least base y a n p h = grind arith

pub change_is_least : (base y a : ℕ) → 0 < y → IsChangeTime base y a (change_of base y a)
change_is_least base y a p = grind (arith, mul_comm, reached, least)

-- The entry at an offset: the sum of the earlier intervals is no more than the offset, and with its own more, or it is the last.
one_on : {E : Type 0} (interval : E → ℕ) (x : E) (rest : List E) (offset : ℕ) → interval x ≤ offset → 0 < length rest → (o : Option E)
    → MatchOption o (rest ≡ []) (λ entry. IsEntryAt interval rest (offset - interval x) (earlier_at interval rest (offset - interval x))
    entry)
    → MatchOption o (x ∷ rest ≡ [])
    (λ entry. IsEntryAt interval (x ∷ rest) offset (interval x + earlier_at interval rest (offset - interval x)) entry)
one_on interval x rest offset ge some None none = absurd (omega (arith, ap length none))
one_on interval x rest offset ge some (Some entry) r =
    record {
      place = suc r.place;
      is_there = r.is_there;
      sums = sum_by-cons interval x (take r.place rest) ∙ ap (λ n. interval x + n) r.sums;
      from = omega (arith, r.from);
      to = elim r.to [ inl lt ↦ inl (omega arith) | inr last ↦ inr (ap suc last) ];
    }

pub entry_is_at : {E : Type 0} (interval : E → ℕ) (list : List E) (offset : ℕ)
    → MatchOption (entry_at interval list offset) (list ≡ [])
    (λ entry. IsEntryAt interval list offset (earlier_at interval list offset) entry)
entry_is_at interval [] offset = refl
entry_is_at interval (x ∷ []) offset = record { place = 0; is_there = refl; sums = refl; from = omega arith; to = inr refl }
entry_is_at interval (x ∷ y ∷ list) offset =
    elim (cases_lt offset (interval x)) [
      | inl lt ↦ rw (lt-ltb offset (interval x) lt)
          (record { place = 0; is_there = refl; sums = refl; from = omega arith; to = inl (omega arith) })
      | inr ge ↦ rw (le-ltb offset (interval x) ge)
          (one_on interval x (y ∷ list) offset ge (omega arith) (entry_at interval (y ∷ list) (offset - interval x))
          (entry_is_at interval (y ∷ list) (offset - interval x)))
    ]

-- A start that isn't void has no apply after it before its change time, so its first cycle start takes place by the rule too.
no_apply : {E : Type 0} (c : ℕ) (later : List (Act E)) → list_any (is_voiding c) later ≡ false → find (is_apply_before c) later ≡ None
no_apply c [] h = refl
no_apply c (Enable a ∷ later) h = no_apply c later h
no_apply c (Disable a ∷ later) h = no_apply c later (or_parts (ltb a c) (list_any (is_voiding c) later) h).1
no_apply c (Apply schedule a ∷ later) h = grind (arith, (no_apply c later (or_parts (ltb a c) (list_any (is_voiding c) later) h).1))

first_takes_place : {E : Type 0} (start : Start E) → is_void start ≡ false → is_held_back start start.change ≡ false
first_takes_place start h = rw (no_apply start.change start.later h) refl

-- The latest up to number k: number i, with all numbers after it held back.
record IsLatest {E : Type 0} (start : Start E) (k n : ℕ) : Type 0 where
  number : ℕ
  up_to : number ≤ k
  nominal_is : n ≡ nominal start number
  took_place : is_held_back start n ≡ false
  others : (i : ℕ) → number < i → i ≤ k → is_held_back start (nominal start i) ≡ true

latest_is : {E : Type 0} (start : Start E) (k : ℕ) → is_void start ≡ false → IsLatest start k (latest_of start k)
latest_is start zero valid =
    record {
      number = 0;
      up_to = omega arith;
      nominal_is = omega arith;
      took_place = first_takes_place start valid;
      others = λ i l m. absurd (omega arith);
    }
latest_is start (suc k) valid =
    let f = elim (is_held_back start (nominal start (suc k))) as
    (λ b. is_held_back start (nominal start (suc k)) ≡ b
    → IsLatest start (suc k) (cond b (latest_of start k) (nominal start (suc k)))) [
      | true ↦ λ e.
          let r : IsLatest start k (latest_of start k) = latest_is start k valid in
          record {
            number = r.number;
            up_to = omega arith;
            nominal_is = r.nominal_is;
            took_place = r.took_place;
            others = λ i l m. elim (cases_lt k i) [ inl gt ↦ (let z : i ≡ suc k = omega arith in rw z e) | inr le ↦ r.others i l le ];
          }
      | false ↦ λ e. record {
        number = suc k;
        up_to = omega arith;
        nominal_is = refl;
        took_place = e;
        others = λ i l m. absurd (omega arith);
      }
    ] in f refl

-- The same by instants.
latest_by : {E : Type 0} (start : Start E) (t : ℕ) → 0 < start.schedule.cycle → is_void start ≡ false → start.change ≤ t
    → IsLatestStart start t (cycle_start start t)
latest_by start t some valid began =
    let r : IsLatest start ((t - start.change) / start.schedule.cycle) (cycle_start start t) = latest_is start
    ((t - start.change) / start.schedule.cycle) valid in
    record {
      cycles = r.number;
      on_grid = r.nominal_is;
      reached = rw r.nominal_is (fits start.change r.number start.schedule.cycle t some began r.up_to);
      took_place = r.took_place;
      latest = λ k after by.
          r.others k
          (elim (cases_lt r.number k) [
            | inl lt ↦ lt
            | inr le ↦ let back : nominal start k ≤ nominal start r.number =
                nominal_le start.change start.schedule.cycle k r.number le in absurd (omega (arith, r.nominal_is))
          ])
          (elim (cases_lt ((t - start.change) / start.schedule.cycle) k) [
            | inl lt ↦ let late : t < nominal start k = past start.change k start.schedule.cycle t some began lt in absurd (omega arith)
            | inr le ↦ le
          ]);
    }

-- A schedule that an apply may set has a list, and its cycle has a length.
abbrev pub IsRunnable : {E : Type 0} → Schedule E → Type 0
IsRunnable schedule = (schedule.list ≢ []) × (0 < schedule.cycle)

-- Each start is of such a schedule.
runnable_followed : {E : Type 0} (act : Act E) (all : List (Start E)) (p : Start E → Bool) (start : Start E)
    → ((q : Start E → Bool) (s : Start E) → find q all ≡ Some s → IsRunnable s.schedule)
    → find p (map (followed_by act) all) ≡ Some start → IsRunnable start.schedule
runnable_followed act all p start earlier e =
    let f = elim (find (λ s. p (followed_by act s)) all) as
    (λ o. find (λ s. p (followed_by act s)) all ≡ o → option_map (followed_by act) o ≡ Some start → IsRunnable start.schedule) [
      | None ↦ λ g i. cc
      | Some s ↦ λ g i. let same : s.schedule ≡ start.schedule = cc in rw (← same) (earlier (λ s. p (followed_by act s)) s g)
    ] in f refl (sym (find-map (followed_by act) p (λ s. p (followed_by act s)) (λ s. refl) all) ∙ e)

runnable_more : {E : Type 0} (act : Act E) (all : List (Start E)) (o : Option (Start E)) (p : Start E → Bool) (start : Start E)
    → ((q : Start E → Bool) (s : Start E) → find q all ≡ Some s → IsRunnable s.schedule)
    → ((s : Start E) → o ≡ Some s → IsRunnable s.schedule)
    → find p (option_to_list o ++ map (followed_by act) all) ≡ Some start → IsRunnable start.schedule
runnable_more act all o p start earlier new e = grind (arith, runnable_followed)

pub runnable : {E : Type 0} (acts : List (Act E)) → IsHistory acts → (p : Start E → Bool) (start : Start E)
    → find p (starts acts) ≡ Some start → IsRunnable start.schedule
runnable [] h p start e = cc
runnable (Enable a ∷ acts) h p start e =
    runnable_more (Enable a) (starts acts) (begun (Enable a) (starts acts)) p start (runnable acts h.2)
    (λ s i.
    let f = elim (find (took_place a) (starts acts)) as
    (λ o. find (took_place a) (starts acts) ≡ o → option_map (λ (start : Start _). start_of a start.schedule) o ≡ Some s
    → IsRunnable s.schedule) [
      | None ↦ λ g j. cc
      | Some held ↦ λ g j. let same : held.schedule ≡ s.schedule = cc in rw (← same) (runnable acts h.2 (took_place a) held g)
    ] in f refl i)
    e
runnable (Disable a ∷ acts) h p start e = runnable_followed (Disable a) (starts acts) p start (runnable acts h.2) e
runnable (Apply schedule a ∷ acts) h p start e =
    runnable_more (Apply schedule a) (starts acts) (Some (start_of a schedule)) p start (runnable acts h.2)
    (λ s i. let same : schedule ≡ s.schedule = cc in rw (← same) (h.1.1, h.1.2)) e

-- The latest cycle start of the list in force is the latest that took place.
pub cycle_start_is_latest : {E : Type 0} (acts : List (Act E)) (t : ℕ) (start : Start E) → IsHistory acts → in_force acts t ≡ Some start
    → IsLatestStart start t (cycle_start start t)
cycle_start_is_latest acts t start h e =
    let there : find (took_place t) (starts acts) ≡ Some start = open_some (find (took_place t) (starts acts)) start e in
    let took : (not (is_void start) ≡ true)
    × (leb start.change t ≡ true) =
    and_parts (not (is_void start)) (leb start.change t) (found (took_place t) (starts acts) start there) in
    latest_by start t (runnable acts h (took_place t) start there).1 (not-true (is_void start) took.0) (leb-true start.change t took.1)

pub errors_stay : {E : Type 0} (act : Act E) (acts : List (Act E)) → errors_in acts ≡ greatest_count
    → errors_in (act ∷ acts) ≡ greatest_count
errors_stay act acts h = grind arith

-- Where no change is pending, the change time that is told is that of the list in force.
-- The starts after an enable, given the start that it starts again.
abbrev with_again : {E : Type 0} → List (Act E) → ℕ → Option (Start E) → List (Start E)
with_again acts a o = option_to_list (option_map (λ start. start_of a start.schedule) o) ++ map (followed_by (Enable a)) (starts acts)

abbrev change_of_first : {E : Type 0} → (Start E → Bool) → List (Start E) → Option ℕ
change_of_first p all = option_map (λ start. start.change) (option_and_then unless_ended (find p all))

told_again : {E : Type 0} (acts : List (Act E)) (a t : ℕ) → IsHistory acts → is_enabled acts ≡ false → (o : Option (Start E))
    → option_map_or (ltb t) (change_of_first (λ start. not (is_void start)) (with_again acts a o)) false ≡ false
    → change_of_first (λ start. not (is_void start)) (with_again acts a o) ≡ change_of_first (took_place t) (with_again acts a o)
told_again acts a t h off None now =
    rw (
      find-map (followed_by (Enable a)) (λ start. not (is_void start)) (λ start. not (is_void start)) (λ start. refl) (starts acts),
      through (Enable a) refl (find (λ start. not (is_void start)) (starts acts)),
      disabled_none acts h off (λ start. not (is_void start)),
      after_enable a t (starts acts),
      through (Enable a) refl (find (took_place t) (starts acts)),
      disabled_none acts h off (took_place t),
    ) refl
told_again acts a t h off (Some start) now = grind arith

pub told : {E : Type 0} (acts : List (Act E)) (t : ℕ) → IsHistory acts → is_pending acts t ≡ false
    → change_in acts ≡ option_map (λ (start : Start E). start.change) (in_force acts t)
told [] t h now = refl
told (Enable a ∷ acts) t h now = told_again acts a t h.2 h.1 (find (took_place a) (starts acts)) now
told (Disable a ∷ acts) t h now = grind (arith, ended_none)
told (Apply schedule a ∷ acts) t h now = grind arith
