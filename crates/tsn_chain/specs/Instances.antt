-- Instance data by key: a runner for each port and each gate, and what the filter chain keeps of each filter, gate and
-- meter.
use Rattle.std.specs.Prelude.{◌≡◌, refl, ℕ, ◌≤◌, IsSome, is_some, Some}
use Rattle.std.specs.FinMap.{FinMap, get, code}
use Rattle.std.specs.Ordering.{nat_cmp}
use Rattle.std.specs.Coded.{Coded, code_by, coded×, coded_ℕ}
use Rattle.tsn_types.specs.declared.keys.Key.{Key}
use Rattle.tsn_types.specs.declared.keys.Key.TheVariants.{Port, Filter, Gate, Meter}
use Rattle.tsn_types.specs.declared.records.PortEntry.{PortEntry}
use Rattle.tsn_types.specs.declared.records.GateEntry.{GateEntry}
use Rattle.tsn_types.specs.contracts.records.PortEntry as port_entry_row
use Rattle.tsn_types.specs.contracts.records.GateEntry as gate_entry_row
use Rattle.tsn_edit.specs.Configuration.{Configuration}
use Rattle.tsn_schedule.specs.Kept.{Kept, kept_code}
use Rattle.tsn_chain.specs.declared.data.FilterData.{FilterData}
use Rattle.tsn_chain.specs.declared.data.GateData.{GateData}
use Rattle.tsn_chain.specs.declared.data.MeterData.{MeterData}
use Rattle.tsn_chain.specs.contracts.data.FilterData as filter_row
use Rattle.tsn_chain.specs.contracts.data.GateData as gate_row
use Rattle.tsn_chain.specs.contracts.data.MeterData as meter_row

-- what the filter chain keeps of each filter, gate and meter that is there, by number
pub record FrameData : Type 0 where
  pub filters : FinMap nat_cmp FilterData
  pub gates : FinMap nat_cmp GateData
  pub meters : FinMap nat_cmp MeterData

-- the runners of the ports and of the gates, by number
pub record Runners : Type 0 where
  pub ports : FinMap nat_cmp (Kept PortEntry)
  pub gates : FinMap nat_cmp (Kept GateEntry)

-- a runtime: instance data, the bridge time, and how many more changes it certainly has room for
pub record Instances : Type 0 where
  pub runners : Runners
  pub frames : FrameData
  pub time : ℕ
  pub spare : ℕ

-- the key has a runner
abbrev pub HasRunner : Runners → Key → Type 0
HasRunner r (Port n) = IsSome (get r.ports n)
HasRunner r (Filter n) = ⊥
HasRunner r (Gate n) = IsSome (get r.gates n)
HasRunner r (Meter n) = ⊥

-- what is kept under the key is there
abbrev pub HasData : Runners → FrameData → Key → Type 0
HasData r f (Port n) = IsSome (get r.ports n)
HasData r f (Filter n) = IsSome (get f.filters n)
HasData r f (Gate n) = IsSome (get r.gates n) × IsSome (get f.gates n)
HasData r f (Meter n) = IsSome (get f.meters n)

-- a table has just the numbers of the keys of one kind in a configuration
abbrev pub SameKeys : {A : Type 0} → FinMap nat_cmp A → (ℕ → Key) → Configuration → Type 0
SameKeys t key c = (n : ℕ) → is_some (get t n) ≡ is_some (get c (key n))

-- what the filter chain keeps is there for just the filters, gates and meters of a configuration
pub record HasFrameKeys (f : FrameData) (c : Configuration) : Type 0 where
  pub filters : SameKeys f.filters (λ n. Filter n) c
  pub gates : SameKeys f.gates (λ n. Gate n) c
  pub meters : SameKeys f.meters (λ n. Meter n) c

-- instance data is there for just the keys of a configuration
pub record HasKeys (r : Runners) (f : FrameData) (c : Configuration) : Type 0 where
  pub ports : SameKeys r.ports (λ n. Port n) c
  pub gates : SameKeys r.gates (λ n. Gate n) c
  pub frames : HasFrameKeys f c

-- no runner's last act comes after an instant
abbrev pub AreBy : {E : Type 0} → ℕ → FinMap nat_cmp (Kept E) → Type 0
AreBy {E = E} now m = (n : ℕ) (kept : Kept E) → get m n ≡ Some kept → kept.last ≤ now

abbrev pub frames_code : Coded FrameData
frames_code =
    code_by (FinMap nat_cmp FilterData × (FinMap nat_cmp GateData × FinMap nat_cmp MeterData))
    (coded× (code coded_ℕ filter_row.the_row.coded) (coded× (code coded_ℕ gate_row.the_row.coded) (code coded_ℕ meter_row.the_row.coded)))
    (λ d. (d.filters, (d.gates, d.meters))) (λ p. record { filters = p.0; gates = p.1.0; meters = p.1.1 }) (λ _. refl)

abbrev pub runners_code : Coded Runners
runners_code =
    code_by (FinMap nat_cmp (Kept PortEntry) × FinMap nat_cmp (Kept GateEntry))
    (coded× (code coded_ℕ (kept_code port_entry_row.the_row.coded)) (code coded_ℕ (kept_code gate_entry_row.the_row.coded)))
    (λ r. (r.ports, r.gates)) (λ p. record { ports = p.0; gates = p.1 }) (λ _. refl)

abbrev pub instances_code : Coded Instances
instances_code =
    code_by (Runners × (FrameData × (ℕ × ℕ))) (coded× runners_code (coded× frames_code (coded× coded_ℕ coded_ℕ)))
    (λ s. (s.runners, (s.frames, (s.time, s.spare)))) (λ p. record { runners = p.0; frames = p.1.0; time = p.1.1.0; spare = p.1.1.1 })
    (λ _. refl)
