-- A schedule whose base is past gives its own states by the offset from its base.
use Rattle.std.proofs.Common.{◌≡◌, ◌<◌, ◌≤◌, ◌+◌, ◌-◌, ◌*◌, ◌/◌, ◌%◌, ℕ, refl, arith, List, ◌∷◌, Option, ◌∙◌}
use Rattle.std.specs.Option.{option_map, option_and_then}
use Rattle.std.proofs.lemmas.Bool.{le-leb}
use Rattle.std.proofs.Math.Nat.{add-mul-mod_self_left, mod-le}
use Rattle.tsn_types.specs.declared.records.Schedule.{Schedule}
use Rattle.tsn_schedule.specs.Acts.{Act, Apply}
use Rattle.tsn_schedule.specs.Entries.{entry_at}
use Rattle.tsn_schedule.specs.Starts.{Start, in_force}
use Rattle.tsn_schedule.specs.States.{state_in, entry_of, run_of}
use Rattle.tsn_schedule.specs.Times.{change_of}
use Rattle.tsn_schedule.proofs.Numbers.{reached}
use Rattle.tsn_schedule.proofs.Recur.{runs-apply}

-- The state, from what runs.
state_of : {E : Type 0} (interval : E → ℕ) (t : ℕ) (o : Option (Start E))
    → option_and_then (entry_of interval t) o ≡ option_and_then (λ p. entry_at interval p.0.list (t - p.1)) (option_map (run_of t) o)
state_of interval t o = grind arith

-- After an apply whose base isn't after it, and until the next act.
pub restored : {E : Type 0} (interval : E → ℕ) (schedule : Schedule E) (acts : List (Act E)) (a t : ℕ) → 0 < schedule.cycle
    → schedule.base ≤ a → change_of schedule.base schedule.cycle a ≤ t
    → state_in interval (Apply schedule a ∷ acts) t ≡ entry_at interval schedule.list ((t - schedule.base) % schedule.cycle)
restored interval schedule acts a t some past h =
    let after : a ≤ change_of schedule.base schedule.cycle a = reached schedule.base schedule.cycle a some in
    let small : (t - change_of schedule.base schedule.cycle a) % schedule.cycle ≤ t - change_of schedule.base schedule.cycle a = mod-le
    (t - change_of schedule.base schedule.cycle a) schedule.cycle in
    let back : t - (t - (t - change_of schedule.base schedule.cycle a) % schedule.cycle) ≡ (t - change_of schedule.base schedule.cycle a) %
    schedule.cycle = omega arith in
    let split : t - schedule.base ≡ (t - change_of schedule.base schedule.cycle a) + schedule.cycle
    * ((a - schedule.base + (schedule.cycle - 1)) / schedule.cycle) = omega arith in
    let same : (t - schedule.base) % schedule.cycle ≡ (t - change_of schedule.base schedule.cycle a) % schedule.cycle = rw split
    (add-mul-mod_self_left (t - change_of schedule.base schedule.cycle a) schedule.cycle
    ((a - schedule.base + (schedule.cycle - 1)) / schedule.cycle)) in
    state_of interval t (in_force (Apply schedule a ∷ acts) t)
    ∙ rw (runs-apply schedule acts a t (omega arith), le-leb (change_of schedule.base schedule.cycle a) t h, back, same) refl
