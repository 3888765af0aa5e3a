-- What a runner keeps after one act more is what stands for the acts with it.
use Rattle.std.proofs.Common.{◌≡◌, ◌<◌, ◌≤◌, ◌+◌, ◌-◌, ◌%◌, ℕ, refl, arith, min, Bool, true, false, cond, leb, is_some, List, [], ◌∷◌, Option, Some, None, sym, ◌∙◌, ◌≢◌}
use Rattle.std.specs.Option.{option_map, option_and_then}
use Rattle.tsn_types.specs.declared.records.Schedule.{Schedule}
use Rattle.tsn_schedule.specs.declared.runner.Pending.{Pending}
use Rattle.tsn_schedule.specs.Acts.{Act, Enable, Disable, Apply, HasEffect, is_enabled, with_act}
use Rattle.tsn_schedule.specs.Kept.{Kept, fresh}
use Rattle.tsn_schedule.specs.Running.{held_by, held_with, from_held, runs_with, restart, kept_after}
use Rattle.tsn_schedule.specs.Stands.{StandsFor}
use Rattle.tsn_schedule.specs.Counters.{enabled_change, greatest_count}
use Rattle.tsn_schedule.specs.Times.{change_of}
use Rattle.tsn_schedule.proofs.Recur.{held-disable, held-apply, held-enable, runs-disable, runs-apply, runs-enable, change-disable, change-enable, moved}

-- A fresh runner stands for no acts.
pub fresh_stands : {E : Type 0} → StandsFor {E = E} fresh []
fresh_stands = record { history = tt; enabled = refl; last = refl; errors = refl; change = refl; held = λ t h. refl; runs = λ t h. refl }

none_known : {E : Type 0} (held : Option (Schedule E)) (change : Option ℕ) (last t : ℕ) → from_held held None change last t ≡ None
none_known held change last t = grind arith

-- A disable.
disabled : {E : Type 0} (kept : Kept E) (acts : List (Act E)) (a : ℕ) → StandsFor kept acts → is_enabled acts ≡ true → kept.last ≤ a
    → StandsFor (kept_after (Disable a) kept) (Disable a ∷ acts)
disabled kept acts a s on h = grind (arith, change-disable, held-disable, none_known, runs-disable)

-- What is held starts again at its change time.
restarted : {E : Type 0} (a t : ℕ) (o : Option (Schedule E)) → a ≤ t
    → from_held o (restart a o) None a t
    ≡ option_and_then (λ s. cond (leb (change_of s.base s.cycle a) t) (Some (s, t - (t - change_of s.base s.cycle a) % s.cycle)) None) o
restarted a t o h = grind arith

-- An enable.
enabled : {E : Type 0} (kept : Kept E) (acts : List (Act E)) (a : ℕ) → StandsFor kept acts → is_enabled acts ≡ false → kept.last ≤ a
    → StandsFor (kept_after (Enable a) kept) (Enable a ∷ acts)
enabled kept acts a s off h = grind (arith, change-enable, held-enable, restarted, runs-enable)

carry : {E : Type 0} (held : Option (Schedule E)) (known : Option ℕ) (pending : Option (Pending E)) (last a c t : ℕ) → a ≤ t
    → from_held (held_with held pending a) (option_map (λ p. p.1) (runs_with held known pending last a)) (Some c) a t
    ≡ option_map (moved a c t) (runs_with held known pending last a)
carry held known pending last a c t h = grind arith

is_some-map : {X Y : Type 0} (f : X → Y) (o : Option X) → is_some (option_map f o) ≡ is_some o
is_some-map f o = grind arith

one_more_error : (n : ℕ) (b : Bool)
    → cond b (min (min n greatest_count + 1) greatest_count) (min n greatest_count) ≡ min (n + cond b 1 0) greatest_count
one_more_error n b = grind arith

-- An apply.
applied : {E : Type 0} (kept : Kept E) (acts : List (Act E)) (schedule : Schedule E) (a : ℕ) → StandsFor kept acts
    → HasEffect (Apply schedule a) acts → kept.last ≤ a
    → StandsFor (kept_after (Apply schedule a) kept) (Apply schedule a ∷ acts)
applied kept acts schedule a s effect h = grind (arith, enabled, is_some-map, one_more_error, held-apply, carry, runs-apply)

-- The acts of a runner, with or without effect.
pub after_enable : {E : Type 0} (old new : Kept E) (acts : List (Act E)) (a : ℕ) → StandsFor old acts → old.last ≤ a → old.enabled ≡ false
    → new ≡ kept_after (Enable a) old
    → StandsFor new (with_act (Enable a) acts)
after_enable old new acts a s h off e = grind (arith, enabled)

pub change_enable : {E : Type 0} (old : Kept E) (acts : List (Act E)) (a : ℕ) → StandsFor old acts → old.last ≤ a → old.enabled ≡ false
    → restart a (held_by old a) ≡ enabled_change a acts
change_enable old acts a s h off = grind (arith, enabled)

pub after_disable : {E : Type 0} (old new : Kept E) (acts : List (Act E)) (a : ℕ) → StandsFor old acts → old.last ≤ a → old.enabled ≡ true
    → new ≡ kept_after (Disable a) old
    → StandsFor new (with_act (Disable a) acts)
after_disable old new acts a s h on e =
    let on' : is_enabled acts ≡ true = sym s.enabled ∙ on in rw (e, on') (disabled old acts a s on' h)

pub after_apply : {E : Type 0} (old new : Kept E) (acts : List (Act E)) (schedule : Schedule E) (a : ℕ) → StandsFor old acts → old.last ≤ a
    → old.enabled ≡ true → schedule.list ≢ [] → 0 < schedule.cycle
    → new ≡ kept_after (Apply schedule a) old → StandsFor new (Apply schedule a ∷ acts)
after_apply old new acts schedule a s h on filled some e = grind (arith, applied)
