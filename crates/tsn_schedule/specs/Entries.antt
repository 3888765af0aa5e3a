-- The entry of a list at an offset of a cycle (802.1Q-2018, 8.6.9 and 8.6.10).
use Rattle.std.specs.Prelude.{ℕ, ◌+◌, ◌-◌, nat_lt, if◌then◌else◌, List, [], ◌∷◌, Option, Some, None}

-- The one whose earlier intervals sum to no more than the offset, and with its own to more; past them all the last one.
abbrev pub entry_at : {E : Type 0} → (E → ℕ) → List E → ℕ → Option E
entry_at interval [] offset = None
entry_at interval (entry ∷ []) offset = Some entry
entry_at interval (entry ∷ next ∷ entries) offset =
    if nat_lt offset (interval entry) then Some entry else entry_at interval (next ∷ entries) (offset - interval entry)

-- The sum of the intervals before that entry.
abbrev pub earlier_at : {E : Type 0} → (E → ℕ) → List E → ℕ → ℕ
earlier_at interval [] offset = 0
earlier_at interval (entry ∷ []) offset = 0
earlier_at interval (entry ∷ next ∷ entries) offset =
    if nat_lt offset (interval entry) then 0 else interval entry + earlier_at interval (next ∷ entries) (offset - interval entry)
