-- What runs has an entry at each offset.
use Rattle.std.proofs.Common.{◌≡◌, ◌≢◌, ◌≤◌, ℕ, refl, List, [], Some, None, ap, sym, ◌∙◌, arith}
use Rattle.std.specs.List.{find}
use Rattle.std.specs.Option.{option_map}
use Rattle.tsn_types.specs.declared.records.Schedule.{Schedule}
use Rattle.tsn_schedule.specs.Acts.{Act}
use Rattle.tsn_schedule.specs.Entries.{entry_at}
use Rattle.tsn_schedule.specs.Kept.{Kept}
use Rattle.tsn_schedule.specs.Running.{runs_by}
use Rattle.tsn_schedule.specs.Stands.{StandsFor}
use Rattle.tsn_schedule.specs.Starts.{in_force, starts, took_place}
use Rattle.tsn_schedule.specs.States.{run_of}
use Rattle.tsn_schedule.proofs.Meaning.{entry_is_at, runnable}
use Rattle.tsn_schedule.proofs.Recur.{open_some}

-- The list of what runs is not empty.
runs_filled : {E : Type 0} (kept : Kept E) (acts : List (Act E)) (t : ℕ) (schedule : Schedule E) (start : ℕ) → StandsFor kept acts
    → kept.last ≤ t → runs_by kept t ≡ Some (schedule, start) → schedule.list ≢ []
runs_filled kept acts t schedule start s h e =
    elim (in_force acts t) as (λ o. in_force acts t ≡ o → option_map (run_of t) o ≡ Some (schedule, start) → schedule.list ≢ []) [
      | None ↦ λ i j. absurd (cc)
      | Some found ↦ λ i j.
          let some : Some found.schedule ≡ Some schedule = ap (option_map (λ p. p.0)) j in
          let same : found.schedule ≡ schedule = cc in
          rw (← same) (runnable acts s.history (took_place t) found (open_some (find (took_place t) (starts acts)) found i)).0
    ] refl (sym (s.runs t h) ∙ e)

-- Only an empty list has no entry at an offset.
no_entry : {E : Type 0} (interval : E → ℕ) (list : List E) (offset : ℕ) → entry_at interval list offset ≡ None → list ≡ []
no_entry interval list offset e = rw e at (entry_is_at interval list offset)

-- So there is no instant at which a list runs and has no entry.
pub has_entry : {E : Type 0} (interval : E → ℕ) (kept : Kept E) (acts : List (Act E)) (t : ℕ) (schedule : Schedule E) (start offset : ℕ)
    → StandsFor kept acts → kept.last ≤ t → Some (schedule, start) ≡ runs_by kept t → None ≡ entry_at interval schedule.list offset → ⊥
has_entry interval kept acts t schedule start offset s h runs none = grind (arith, runs_filled, no_entry)
