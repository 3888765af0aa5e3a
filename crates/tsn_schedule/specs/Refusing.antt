-- Why an apply is refused.
use Rattle.std.specs.Prelude.{Bool, true, false, List, [], ◌∷◌, Option}
use Rattle.tsn_types.specs.Limits.{unless, first_cause}
use Rattle.tsn_types.specs.declared.refusals.Refusal.{Refusal}
use Rattle.tsn_types.specs.declared.refusals.Refusal.TheVariants.{NotEnabled, EmptyList}

abbrev pub has_entries : {E : Type 0} → List E → Bool
has_entries [] = false
has_entries (entry ∷ entries) = true

-- 14 for a disabled object, then 15 for an empty list. Want of memory comes after these.
abbrev pub apply_refusal : {E : Type 0} → Bool → List E → Option Refusal
apply_refusal enabled list = first_cause (unless enabled NotEnabled ∷ unless (has_entries list) EmptyList ∷ [])
