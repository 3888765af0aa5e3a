-- What one more act makes of what is in force.
use Rattle.std.proofs.Common.{◌≡◌, ◌<◌, ◌≤◌, ◌-◌, ◌%◌, ℕ, refl, arith, Bool, true, false, not, ◌&&◌, ◌||◌, cond, ltb, leb, List, [], ◌∷◌, ◌++◌, map, Option, Some, None, sym, ◌∙◌, inl, inr}
use Rattle.std.specs.List.{find}
use Rattle.std.specs.Option.{option_map, option_and_then}
use Rattle.std.specs.Prelude.{option_to_list}
use Rattle.std.proofs.lemmas.Bool.{true≢false, and_parts, leb-true, le-leb, lt-leb, cases_lt}
use Rattle.std.proofs.lemmas.Bool.Decides.{nat_tests}
use Rattle.tsn_types.specs.declared.records.Schedule.{Schedule}
use Rattle.tsn_schedule.specs.Acts.{Act, Enable, Disable, Apply, IsHistory, is_enabled, last_instant}
use Rattle.tsn_schedule.specs.Running.{start_by, last_free}
use Rattle.tsn_schedule.specs.Counters.{change_in}
use Rattle.tsn_schedule.specs.Starts.{Start, starts, took_place, followed_by, is_disable, is_void, is_voiding, in_force, start_of, unless_ended}
use Rattle.tsn_schedule.specs.States.{held_in, runs_in, run_of, cycle_start}
use Rattle.tsn_schedule.specs.Times.{change_of}
use Rattle.tsn_schedule.proofs.Numbers.{grid}
use Rattle.tsn_schedule.proofs.Cycles.{plain, after_apply}

pub find-map : {X Y : Type 0} (f : X → Y) (p : Y → Bool) (q : X → Bool) → ((x : X) → p (f x) ≡ q x) → (xs : List X)
    → find p (map f xs) ≡ option_map f (find q xs)
find-map f p q same [] = refl
find-map f p q same (x ∷ xs) = grind (arith, (find-map f p q same xs))

-- An act that voids later changes leaves as taken place by t what took place by the act's instant.
voided : (a t c : ℕ) (v : Bool) → a ≤ t → (not (ltb a c || v) && leb c t) ≡ (not v && leb c a)
voided a t c v h = grind (arith, nat_tests)

-- With a disable after it, no start counts.
pub ended_none : {E : Type 0} (a : ℕ) (p : Start E → Bool) (all : List (Start E))
    → option_and_then unless_ended (find p (map (followed_by (Disable a)) all)) ≡ None
ended_none a p [] = refl
ended_none a p (start ∷ all) = grind (arith, (ended_none a p all))

-- While disabled, each start has a disable after it.
pub disabled_none : {E : Type 0} (acts : List (Act E)) → IsHistory acts → is_enabled acts ≡ false → (p : Start E → Bool)
    → option_and_then unless_ended (find p (starts acts)) ≡ None
disabled_none [] h off p = refl
disabled_none (Enable a ∷ acts) h off p = absurd (true≢false off)
disabled_none (Disable a ∷ acts) h off p = ended_none a p (starts acts)
disabled_none (Apply schedule a ∷ acts) h off p = absurd (true≢false (sym h.1.0 ∙ off))

-- What an act at a that voids later changes leaves as taken place by t.
void_later : {E : Type 0} (act : Act E) (a t : ℕ) → a ≤ t → ((c : ℕ) → is_voiding c act ≡ ltb a c) → (all : List (Start E))
    → find (took_place t) (map (followed_by act) all) ≡ option_map (followed_by act) (find (took_place a) all)
void_later act a t h voids all = grind (arith, find-map, voided)

-- An enable voids nothing.
pub after_enable : {E : Type 0} (a t : ℕ) (all : List (Start E))
    → find (took_place t) (map (followed_by (Enable a)) all) ≡ option_map (followed_by (Enable a)) (find (took_place t) all)
after_enable a t all = find-map (followed_by (Enable a)) (took_place t) (took_place t) (λ start. refl) all

schedule-followed : {E : Type 0} (act : Act E) (o : Option (Start E))
    → option_map (λ (start : Start E). start.schedule) (option_map (followed_by act) o) ≡ option_map (λ (start : Start E). start.schedule) o
schedule-followed act o = grind arith

-- The schedule held.
pub held-disable : {E : Type 0} (acts : List (Act E)) (a t : ℕ) → a ≤ t → held_in (Disable a ∷ acts) t ≡ held_in acts a
held-disable acts a t h =
    rw (void_later (Disable a) a t h (λ c. refl) (starts acts)) (schedule-followed (Disable a) (find (took_place a) (starts acts)))

pub held-apply : {E : Type 0} (schedule : Schedule E) (acts : List (Act E)) (a t : ℕ) → a ≤ t
    → held_in (Apply schedule a ∷ acts) t ≡ cond (leb (change_of schedule.base schedule.cycle a) t) (Some schedule) (held_in acts a)
held-apply schedule acts a t h =
    elim (leb (change_of schedule.base schedule.cycle a) t) as
    (λ b. option_map (λ (start : Start _). start.schedule)
    (cond b (Some (start_of a schedule)) (find (took_place t) (map (followed_by (Apply schedule a)) (starts acts))))
    ≡ cond b (Some schedule) (held_in acts a)) [
      | true ↦ refl
      | false ↦ rw (void_later (Apply schedule a) a t h (λ c. refl) (starts acts))
          (schedule-followed (Apply schedule a) (find (took_place a) (starts acts)))
    ]

-- A later act that is no disable leaves it open whether a start has ended.
pub through : {E : Type 0} (act : Act E) → is_disable act ≡ false → (o : Option (Start E))
    → option_and_then unless_ended (option_map (followed_by act) o) ≡ option_map (followed_by act) (option_and_then unless_ended o)
through act is_none o = grind arith

-- A schedule's cycle start by t, with no act after its start.
cycle_start-plain : {E : Type 0} (schedule : Schedule E) (a t : ℕ) → change_of schedule.base schedule.cycle a ≤ t
    → cycle_start (start_of a schedule) t ≡ t - (t - change_of schedule.base schedule.cycle a) % schedule.cycle
cycle_start-plain schedule a t h = grind (arith, grid, plain)

-- While disabled, nothing more takes place.
settled : {E : Type 0} (acts : List (Act E)) (a t : ℕ) → IsHistory acts → is_enabled acts ≡ false → last_instant acts ≤ a → a ≤ t
    → held_in acts t ≡ held_in acts a
settled acts a t h off la at = grind (arith, true≢false, held-disable)

held_again : {E : Type 0} (a t : ℕ) (all : List (Start E)) (o : Option (Start E))
    → option_map (λ (start : Start E). start.schedule) (find (took_place t) all) ≡ option_map (λ (start : Start E). start.schedule) o
    → option_map (λ (start : Start E). start.schedule)
    (find (took_place t) (option_to_list (option_map (λ (start : Start E). start_of a start.schedule) o)
    ++ map (followed_by (Enable a)) all)) ≡ option_map (λ (start : Start E). start.schedule) o
held_again a t all o e = grind (arith, after_enable, schedule-followed)

pub held-enable : {E : Type 0} (acts : List (Act E)) (a t : ℕ) → IsHistory acts → is_enabled acts ≡ false → last_instant acts ≤ a → a ≤ t
    → held_in (Enable a ∷ acts) t ≡ held_in acts a
held-enable acts a t h off la at = held_again a t (starts acts) (find (took_place a) (starts acts)) (settled acts a t h off la at)

runs_again : {E : Type 0} (a t : ℕ) (all : List (Start E)) (o : Option (Start E))
    → option_and_then unless_ended (find (took_place t) all) ≡ None
    → option_map (run_of t) (option_and_then unless_ended
    (find (took_place t) (option_to_list (option_map (λ (start : Start E). start_of a start.schedule) o)
    ++ map (followed_by (Enable a)) all)))
    ≡ option_and_then (λ schedule. cond (leb (change_of schedule.base schedule.cycle a) t)
    (Some (schedule, t - (t - change_of schedule.base schedule.cycle a) % schedule.cycle)) None)
    (option_map (λ (start : Start E). start.schedule) o)
runs_again a t all o e = grind (arith, after_enable, through, cases_lt, lt-leb, le-leb, cycle_start-plain)

pub runs-enable : {E : Type 0} (acts : List (Act E)) (a t : ℕ) → IsHistory acts → is_enabled acts ≡ false
    → runs_in (Enable a ∷ acts) t ≡ option_and_then
    (λ schedule. cond (leb (change_of schedule.base schedule.cycle a) t)
    (Some (schedule, t - (t - change_of schedule.base schedule.cycle a) % schedule.cycle)) None) (held_in acts a)
runs-enable acts a t h off = runs_again a t (starts acts) (find (took_place a) (starts acts)) (disabled_none acts h off (took_place t))

pub runs-disable : {E : Type 0} (acts : List (Act E)) (a t : ℕ) → runs_in (Disable a ∷ acts) t ≡ None
runs-disable acts a t = rw (ended_none a (took_place t) (starts acts)) refl

-- What runs on after an apply at a whose change comes at C: its cycle start by t.
abbrev pub moved : {E : Type 0} → ℕ → ℕ → ℕ → Schedule E × ℕ → Schedule E × ℕ
moved a change t (schedule, known) = (schedule, start_by schedule.cycle known a (last_free schedule.extension (Some change) t))

pub found : {X : Type 0} (p : X → Bool) (xs : List X) (x : X) → find p xs ≡ Some x → p x ≡ true
found p [] x e = cc
found p (y ∷ xs) x e =
    let f = elim (p y) as (λ b. p y ≡ b → cond b (Some y) (find p xs) ≡ Some x → p x ≡ true)
    [ true ↦ λ is g. (let same : y ≡ x = cc in rw (← same) is) | false ↦ λ is g. found p xs x g ] in f refl e

pub open_some : {E : Type 0} (o : Option (Start E)) (start : Start E) → option_and_then unless_ended o ≡ Some start → o ≡ Some start
open_some o start e = grind arith

-- What is in force at a has changed by a.
in_force-change : {E : Type 0} (acts : List (Act E)) (a : ℕ) (start : Start E) → in_force acts a ≡ Some start → start.change ≤ a
in_force-change acts a start e = grind (arith, leb-true, and_parts, found, open_some)

moved_all : {E : Type 0} (schedule : Schedule E) (a t : ℕ) (o : Option (Start E)) → a ≤ t → t < change_of schedule.base schedule.cycle a
    → ((start : Start E) → o ≡ Some start → start.change ≤ a)
    → option_map (run_of t) (option_map (followed_by (Apply schedule a)) o)
    ≡ option_map (moved a (change_of schedule.base schedule.cycle a) t) (option_map (run_of a) o)
moved_all schedule a t o h lt by_a = grind (arith, after_apply)

pub runs-apply : {E : Type 0} (schedule : Schedule E) (acts : List (Act E)) (a t : ℕ) → a ≤ t
    → runs_in (Apply schedule a ∷ acts) t ≡ cond (leb (change_of schedule.base schedule.cycle a) t)
    (Some (schedule, t - (t - change_of schedule.base schedule.cycle a) % schedule.cycle))
    (option_map (moved a (change_of schedule.base schedule.cycle a) t) (runs_in acts a))
runs-apply schedule acts a t h =
    elim (cases_lt t (change_of schedule.base schedule.cycle a)) [
      | inl lt ↦
          rw (
            lt-leb (change_of schedule.base schedule.cycle a) t lt,
            void_later (Apply schedule a) a t h (λ c. refl) (starts acts),
            through (Apply schedule a) refl (find (took_place a) (starts acts)),
          )
          (moved_all schedule a t (in_force acts a) h lt (in_force-change acts a))
      | inr le ↦ rw (le-leb (change_of schedule.base schedule.cycle a) t le, cycle_start-plain schedule a t le) refl
    ]

pub change-disable : {E : Type 0} (acts : List (Act E)) (a : ℕ) → change_in (Disable a ∷ acts) ≡ None
change-disable acts a = rw (ended_none a (λ start. not (is_void start)) (starts acts)) refl

change_again : {E : Type 0} (a : ℕ) (all : List (Start E)) (o : Option (Start E))
    → option_and_then unless_ended (find (λ start. not (is_void start)) all) ≡ None
    → option_map (λ (start : Start E). start.change)
    (option_and_then unless_ended (find (λ start. not (is_void start))
    (option_to_list (option_map (λ (start : Start E). start_of a start.schedule) o) ++ map (followed_by (Enable a)) all)))
    ≡ option_map (λ schedule. change_of schedule.base schedule.cycle a) (option_map (λ (start : Start E). start.schedule) o)
change_again a all None e =
    rw (
      find-map (followed_by (Enable a)) (λ start. not (is_void start)) (λ start. not (is_void start)) (λ start. refl) all,
      through (Enable a) refl (find (λ start. not (is_void start)) all),
      e,
    ) refl
change_again a all (Some start) e = refl

pub change-enable : {E : Type 0} (acts : List (Act E)) (a : ℕ) → IsHistory acts → is_enabled acts ≡ false
    → change_in (Enable a ∷ acts) ≡ option_map (λ schedule. change_of schedule.base schedule.cycle a) (held_in acts a)
change-enable acts a h off =
    change_again a (starts acts) (find (took_place a) (starts acts)) (disabled_none acts h off (λ start. not (is_void start)))
