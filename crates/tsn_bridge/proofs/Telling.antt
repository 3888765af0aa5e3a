-- What the runtime tells of a key, for whatever acts its runner stands, is what the key's acts in the journal say.
use Rattle.std.proofs.Common.{◌≡◌, ◌≤◌, ◌<◌, ℕ, Bool, true, false, refl, sym, ◌∙◌, ap, subst, [], ◌∷◌, ◌++◌, Option, Some, None}
use Rattle.std.specs.Prelude.{Err, IsSome, MatchResult, Ok, Result, is_some, option_map, unwrap_or}
use Rattle.std.specs.FinMap.{get}
use Rattle.std.specs.Option.{option_or}
use Rattle.tsn_types.specs.declared.keys.Key.{Key}
use Rattle.tsn_types.specs.declared.keys.Key.TheVariants.{Port, Filter, Gate, Meter}
use Rattle.tsn_types.specs.declared.records.Record.{Record}
use Rattle.tsn_types.specs.declared.records.Record.TheVariants as records
use Rattle.tsn_types.specs.declared.refusals.Refusal.{Refusal}
use Rattle.tsn_types.specs.declared.refusals.Refusal.TheVariants.{EmptyList, Memory, NotEnabled}
use Rattle.tsn_types.specs.Limits.{HoldsRecord, first_cause, unless}
use Rattle.tsn_types.specs.Refusals.{IsLeastOrMemory}
use Rattle.tsn_types.proofs.Causes.{first_cause-append, option_or-None}
use Rattle.tsn_edit.specs.Configuration.{IsWellKept}
use Rattle.tsn_schedule.specs.declared.runner.Past.{Past as TooEarly}
use Rattle.tsn_entries.specs.declared.entries.Act.{Act as Asked}
use Rattle.tsn_entries.specs.declared.entries.Act.TheVariants as asked
use Rattle.tsn_entries.specs.Entries.{no_room}
use Rattle.tsn_chain.specs.declared.state.Counters.{Counters}
use Rattle.tsn_chain.specs.declared.state.Counters.TheVariants as counters
use Rattle.tsn_chain.specs.declared.state.State.{State as Shown}
use Rattle.tsn_chain.specs.Acts.{HasList, KeyRefuses, KeyStates}
use Rattle.tsn_chain.specs.Counters.{KeyCounts, gate_counters, list_counters}
use Rattle.tsn_chain.specs.Instances.{FrameData, HasData, HasRunner, Instances}
use Rattle.tsn_undo.specs.Ledger.{Ledger, present}
use Rattle.tsn_bridge.specs.Acts.{act_causes, enabled_at, has_entry, has_list, says_enabled}
use Rattle.tsn_bridge.specs.Kept.{IsTied}
use Rattle.tsn_bridge.specs.Looking.{counted_at, last_at, shown_at}
use Rattle.tsn_bridge.specs.Objects.{gate_at, port_at}

-- what stands at a place that is not empty
pub held : {A : Type 0} (o : Option A) → IsSome o → (x : A) × (o ≡ Some x)
held None e = (cc)
held (Some x) e = (x, refl)

module _ (b : Ledger) (t : Instances) (h : IsTied b t.runners t.frames) where
  pub runner_of : (key : Key) → has_list key ≡ true → is_some (get (present b) key) ≡ true → HasRunner t.runners key
  runner_of (Port m) e there = h.keys.ports m ∙ there
  runner_of (Filter m) e there = (cc)
  runner_of (Gate m) e there = h.keys.gates m ∙ there
  runner_of (Meter m) e there = (cc)

  pub data_of : (key : Key) → is_some (get (present b) key) ≡ true → HasData t.runners t.frames key
  data_of (Port m) there = h.keys.ports m ∙ there
  data_of (Filter m) there = h.keys.frames.filters m ∙ there
  data_of (Gate m) there = (h.keys.gates m ∙ there, h.keys.frames.gates m ∙ there)
  data_of (Meter m) there = h.keys.frames.meters m ∙ there

  shown_told : (key : Key) (v : Option Record) (at : ℕ) (x : Shown) → HasRunner t.runners key → KeyStates t.runners key v at (Ok x)
      → (last_at b key ≤ at) × (Some x ≡ shown_at b key v at)
  shown_told (Port m) (Some (records.Port p)) at x there told =
      let r = held (get t.runners.ports m) there in
      let f = told r.0 r.1 (port_at b m).acts (h.runs.ports m r.0 r.1) in
      (f.0, ap Some f.1)
  shown_told (Gate m) (Some (records.Gate p)) at x there told =
      let r = held (get t.runners.gates m) there in
      let f = told r.0 r.1 (gate_at b m).acts (h.runs.gates m r.0 r.1) in
      (f.0, ap Some f.1)
  shown_told key v at x there told = absurd told

  past_told : (key : Key) (v : Option Record) (at : ℕ) (x : TooEarly) → HasRunner t.runners key → KeyStates t.runners key v at (Err x)
      → at < last_at b key
  past_told (Port m) (Some (records.Port p)) at x there told =
      let r = held (get t.runners.ports m) there in told r.0 r.1 (port_at b m).acts (h.runs.ports m r.0 r.1)
  past_told (Gate m) (Some (records.Gate p)) at x there told =
      let r = held (get t.runners.gates m) there in told r.0 r.1 (gate_at b m).acts (h.runs.gates m r.0 r.1)
  past_told key v at x there told = absurd told

  pub states_told : (key : Key) (v : Option Record) (at : ℕ) (result : Result Shown TooEarly) → HasRunner t.runners key
      → KeyStates t.runners key v at result
      → MatchResult result (λ x. (last_at b key ≤ at) × (shown_at b key v at ≡ Some x)) (λ _. at < last_at b key)
  states_told key v at (Ok x) there told = let f = shown_told key v at x there told in (f.0, sym f.1)
  states_told key v at (Err x) there told = past_told key v at x there told

  -- an apply that finds its key enabled and its list with an entry is refused for memory alone
  memory_told : (key : Key) (v : Option Record) (why : Refusal) → HasRunner t.runners key → KeyRefuses t.runners key v (Err why)
      → first_cause (unless (enabled_at b key) NotEnabled ∷ unless (has_entry v) EmptyList ∷ []) ≡ None → why ≡ Memory
  memory_told (Port m) (Some (records.Port p)) why there told none =
      let r = held (get t.runners.ports m) there in
      told r.0 r.1 (port_at b m).acts (h.runs.ports m r.0 r.1) ∙ ap (λ o. unwrap_or o Memory) none
  memory_told (Gate m) (Some (records.Gate p)) why there told none =
      let r = held (get t.runners.gates m) there in
      told r.0 r.1 (gate_at b m).acts (h.runs.gates m r.0 r.1) ∙ ap (λ o. unwrap_or o Memory) none
  memory_told key v why there told none = absurd told

  pub refused_told : (act : Asked) (key : Key) (why : Refusal) → HasRunner t.runners key → act ≡ asked.Apply
      → KeyRefuses t.runners key (get (present b) key) (Err why) → first_cause (act_causes b act key) ≡ None → why ≡ Memory
  refused_told asked.Enable key why there is told none = absurd (cc)
  refused_told asked.Disable key why there is told none = absurd (cc)
  refused_told asked.Apply key why there is told none = memory_told key (get (present b) key) why there told none

  pub counted_told : (key : Key) (now : ℕ) (told : Counters) → HasData t.runners t.frames key → KeyCounts t.runners t.frames now key told
      → Some told ≡ counted_at b t.frames now key
  counted_told (Port m) now told there is =
      let r = held (get t.runners.ports m) there in ap Some (is r.0 r.1 (port_at b m).acts (h.runs.ports m r.0 r.1))
  counted_told (Filter m) now told there is =
      let d = held (get t.frames.filters m) there in ap Some (is d.0 d.1) ∙ sym (ap (option_map (λ x. counters.Filter x)) d.1)
  counted_told (Gate m) now told there is =
      let r = held (get t.runners.gates m) there.0 in
      let d = held (get t.frames.gates m) there.1 in
      ap Some (is d.0 d.1 r.0 r.1 (gate_at b m).acts (h.runs.gates m r.0 r.1))
      ∙ sym (ap (option_map (λ x. gate_counters now x (gate_at b m).acts)) d.1)
  counted_told (Meter m) now told there is =
      let d = held (get t.frames.meters m) there in ap Some (is d.0 d.1) ∙ sym (ap (option_map (λ x. counters.Meter x.red)) d.1)

-- what is told of a value that is there says whether the key is enabled
told_enabled : {A : Type 0} (f : A → Counters) (o : Option A) (told : Counters) (b : Bool) → option_map f o ≡ Some told
    → ((x : A) → says_enabled (f x) ≡ b) → says_enabled told ≡ b
told_enabled f None told b is each = (cc)
told_enabled f (Some x) told b is each = let same : f x ≡ told = (cc) in sym (ap says_enabled same) ∙ each x

-- the counters of a key say whether its acts leave it enabled
pub enabled_told : (b : Ledger) (f : FrameData) (now : ℕ) (key : Key) (told : Counters) → counted_at b f now key ≡ Some told
    → says_enabled told ≡ enabled_at b key
enabled_told b f now (Port m) told is =
    let same : counters.Port (list_counters now (port_at b m).acts) ≡ told = (cc) in sym (ap says_enabled same)
enabled_told b f now (Filter m) told is = told_enabled (λ d. counters.Filter d) (get f.filters m) told false is (λ d. refl)
enabled_told b f now (Gate m) told is =
    told_enabled (λ d. gate_counters now d (gate_at b m).acts) (get f.gates m) told (enabled_at b (Gate m)) is (λ d. refl)
enabled_told b f now (Meter m) told is = told_enabled (λ d. counters.Meter d.red) (get f.meters m) told false is (λ d. refl)

-- the record of a key that has a list, in a well kept configuration
record_of : (b : Ledger) (key : Key) (r : Record) → has_list key ≡ true → HoldsRecord b.limits key r → HasList key (Some r)
record_of b (Port m) (records.Port r) e h = tt
record_of b (Gate m) (records.Gate r) e h = tt
record_of b (Filter m) r e h = (cc)
record_of b (Meter m) r e h = (cc)
record_of b key r e h = absurd h

pub list_of : (b : Ledger) (key : Key) → IsWellKept b.limits (present b) → has_list key ≡ true → is_some (get (present b) key) ≡ true
    → HasList key (get (present b) key)
list_of b key kept e there =
    let r = held (get (present b) key) there in
    subst (λ (v : Option Record). HasList key v) (sym r.1) (record_of b key r.0 e (kept.within key r.0 r.1).1)

-- ---- an act is refused by what it adds, then by the journal, then for memory

act_first : (b : Ledger) (act : Asked) (key : Key)
    → first_cause (act_causes b act key ++ no_room b.entries 1 ∷ []) ≡ option_or (first_cause (act_causes b act key))
    (option_or (no_room b.entries 1) None)
act_first b act key = first_cause-append (act_causes b act key) (no_room b.entries 1 ∷ [])

-- where it adds no cause, and the journal has room
pub act_memory : (b : Ledger) (act : Asked) (key : Key) → first_cause (act_causes b act key) ≡ None → (why : Refusal)
    → no_room b.entries 1 ≡ None → why ≡ Memory → IsLeastOrMemory (first_cause (act_causes b act key ++ no_room b.entries 1 ∷ [])) why
act_memory b act key none why room memory =
    let rest = act_first b act key ∙ ap (λ o. option_or o (option_or (no_room b.entries 1) None)) none
    ∙ option_or-None (no_room b.entries 1) in
    subst (λ o. IsLeastOrMemory o why) (sym (rest ∙ room)) memory
