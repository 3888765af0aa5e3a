-- What contracts see of a runner: not the acts, but one operational and one pending schedule, and one number more.
use Rattle.std.specs.Prelude.{ℕ, refl, Bool, false, Option, None}
use Rattle.std.specs.Coded.{Coded, code_by, coded×, coded_ℕ, coded_bool, coded_option}
use Rattle.tsn_types.specs.declared.records.Schedule.{Schedule}
use Rattle.tsn_schedule.specs.Planned.{schedule_code}
use Rattle.tsn_schedule.specs.declared.runner.Pending.{Pending}

pub record Kept (E : Type 0) : Type 0 where
  pub enabled : Bool
  -- the instant of the last act
  pub last : ℕ
  -- ConfigChangeError
  pub errors : ℕ
  -- the schedule of the latest start that took place by the last act
  pub held : Option (Schedule E)
  -- the latest cycle start that took place by then; of an enable's start that is yet to come its change time; none where nothing runs
  pub running : Option ℕ
  -- what the last act, an apply, set
  pub pending : Option (Pending E)

-- a disabled object with no list
abbrev pub fresh : {E : Type 0} → Kept E
fresh = record { enabled = false; last = 0; errors = 0; held = None; running = None; pending = None }

abbrev pub pending_code : {E : Type 0} → Coded E → Coded (Pending E)
pending_code {E = E} e =
    code_by (Schedule E × ℕ) (coded× (schedule_code e) coded_ℕ) (λ p. (p.schedule, p.change)) (λ p. record { schedule = p.0; change = p.1 })
    (λ _. refl)

abbrev pub kept_code : {E : Type 0} → Coded E → Coded (Kept E)
kept_code {E = E} e =
    code_by (Bool × (ℕ × (ℕ × (Option (Schedule E) × (Option ℕ × Option (Pending E))))))
    (coded× coded_bool (coded× coded_ℕ
    (coded× coded_ℕ (coded× (coded_option (schedule_code e)) (coded× (coded_option coded_ℕ) (coded_option (pending_code e)))))))
    (λ k. (k.enabled, (k.last, (k.errors, (k.held, (k.running, k.pending))))))
    (λ p. record { enabled = p.0; last = p.1.0; errors = p.1.1.0; held = p.1.1.1.0; running = p.1.1.1.1.0; pending = p.1.1.1.1.1 })
    (λ _. refl)
