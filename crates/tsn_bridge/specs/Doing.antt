-- What a runtime does of an act that was asked for: an enable and a disable need their key alone, an apply takes the
-- schedule of the key's record.
use Rattle.std.specs.Prelude.{◌≡◌, ℕ, Option, None}
use Rattle.tsn_types.specs.declared.keys.Key.{Key}
use Rattle.tsn_types.specs.declared.records.Record.{Record}
use Rattle.tsn_schedule.specs.Acts.{Disable, Enable}
use Rattle.tsn_schedule.specs.Counters.{enabled_change}
use Rattle.tsn_entries.specs.declared.entries.Act.{Act as Asked}
use Rattle.tsn_entries.specs.declared.entries.Act.TheVariants as asked
use Rattle.tsn_chain.specs.Acts.{KeyActs, KeyAnswers, KeyApplies}
use Rattle.tsn_chain.specs.Instances.{Runners}
use Rattle.tsn_bridge.specs.Acts.{apply_change}

-- the key's runner stands for the act too
abbrev pub Does : Runners → Asked → Key → Option Record → ℕ → Runners → Type 0
Does old asked.Enable k v a new = KeyActs old k (Enable a) (Enable a) new
Does old asked.Disable k v a new = KeyActs old k (Disable a) (Disable a) new
Does old asked.Apply k v a new = KeyApplies old k v a new

-- and this is the change time, for whatever acts it stood
abbrev pub Changes : Runners → Asked → Key → Option Record → ℕ → Option ℕ → Type 0
Changes old asked.Enable k v a change = KeyAnswers old k (λ acts. change ≡ enabled_change a acts) (λ acts. change ≡ enabled_change a acts)
Changes old asked.Disable k v a change = change ≡ None
Changes old asked.Apply k v a change = change ≡ apply_change v a
