-- The instance data of a configuration is there for just its keys, and each runner is one that nothing was done to.
use Rattle.std.proofs.Common.{◌≡◌, ℕ, arith, Bool, true, false, cond, List, [], ◌∷◌, refl, sym, ◌∙◌, ap, Option, Some, None}
use Rattle.std.specs.Prelude.{◌||◌, IsSome, fold, is_some}
use Rattle.std.specs.Cmp.{nat_cmp_total}
use Rattle.std.specs.FinMap.{FinMap, get, empty, get-empty, get-insert}
use Rattle.std.specs.List.{AllByRecursion, list_any}
use Rattle.std.specs.Ordering.{nat_cmp, eq_by_cmp}
use Rattle.std.proofs.Math.Bool.{or-false}
use Rattle.tsn_types.specs.declared.keys.Key.{Key}
use Rattle.tsn_types.specs.declared.keys.Key.TheVariants.{Port, Filter, Gate, Meter}
use Rattle.tsn_types.specs.declared.keys.Kind.{Kind}
use Rattle.tsn_types.specs.declared.keys.Kind.TheVariants as kinds
use Rattle.tsn_types.specs.declared.limits.Limits.{Limits}
use Rattle.tsn_types.specs.declared.records.FlowMeter.{FlowMeter}
use Rattle.tsn_types.specs.declared.records.GateEntry.{GateEntry}
use Rattle.tsn_types.specs.declared.records.PortEntry.{PortEntry}
use Rattle.tsn_types.specs.declared.records.Record.{Record}
use Rattle.tsn_types.specs.declared.records.Record.TheVariants as records
use Rattle.tsn_types.specs.Limits.{HoldsRecord}
use Rattle.tsn_config.specs.Ids.{ids_of, key_by}
use Rattle.tsn_config.specs.Kinds.{meter_of}
use Rattle.tsn_config.proofs.Keyed.{each_there, in_ids}
use Rattle.tsn_chain.proofs.Each.{Each, each_empty, each_row}
use Rattle.tsn_edit.specs.Configuration.{Configuration, IsWellKept}
use Rattle.tsn_edit.proofs.KeyFacts.{by_option}
use Rattle.tsn_schedule.specs.Kept.{Kept, fresh}
use Rattle.tsn_chain.specs.declared.data.FilterData.{FilterData}
use Rattle.tsn_chain.specs.declared.data.GateData.{GateData}
use Rattle.tsn_chain.specs.declared.data.MeterData.{MeterData}
use Rattle.tsn_chain.specs.Begun.{AreFresh, begun_frames, begun_runners, first_change, no_frames, no_runners}
use Rattle.tsn_chain.specs.Following.{frames_after, meter_row_after, new_filter, new_gate, new_meter, row_after, runners_after}
use Rattle.tsn_chain.specs.Instances.{FrameData, HasKeys, Runners}

-- ---- rows that are created at some numbers

either : {A : Type 0} (b : Bool) (x : A) (o : Option A) → is_some (cond b (Some x) o) ≡ (b || is_some o)
either b x o = grind arith

-- where each step makes the row of its number be there and leaves the others, just those of the numbers come
rows_there : {A : Type 0} (step : FinMap nat_cmp A → ℕ → FinMap nat_cmp A) (P : ℕ → Type 0)
    → ((t : FinMap nat_cmp A) (m n : ℕ) → P m → is_some (get (step t m) n) ≡ (eq_by_cmp nat_cmp n m || is_some (get t n)))
    → (ns : List ℕ) (t : FinMap nat_cmp A) (n : ℕ) → AllByRecursion P ns
    → is_some (get (fold step t ns) n) ≡ (list_any (eq_by_cmp nat_cmp n) ns || is_some (get t n))
rows_there step P one [] t n each = refl
rows_there step P one (m ∷ ns) t n each = grind (arith, (rows_there step P one ns (step t m) n each.1))

created : {A : Type 0} (new : A) (v : Option Record) (t : FinMap nat_cmp A) (m n : ℕ) → IsSome v
    → is_some (get (row_after new None v t m) n) ≡ (eq_by_cmp nat_cmp n m || is_some (get t n))
created new None t m n there = (cc)
created new (Some r) t m n there = ap is_some (get-insert nat_cmp_total t m new n) ∙ either (eq_by_cmp nat_cmp n m) new (get t n)

created_meter : (o : Option FlowMeter) (t : FinMap nat_cmp MeterData) (m n : ℕ) → IsSome o
    → is_some (get (meter_row_after 0 None o t m) n) ≡ (eq_by_cmp nat_cmp n m || is_some (get t n))
created_meter None t m n there = (cc)
created_meter (Some r) t m n there =
    ap is_some (get-insert nat_cmp_total t m (new_meter 0 r) n) ∙ either (eq_by_cmp nat_cmp n m) (new_meter 0 r) (get t n)

-- from none, just the rows of a configuration's keys
rows_of : {A : Type 0} (kind : Kind) (c : Configuration) (step : FinMap nat_cmp A → ℕ → FinMap nat_cmp A) (P : ℕ → Type 0)
    → ((t : FinMap nat_cmp A) (m n : ℕ) → P m → is_some (get (step t m) n) ≡ (eq_by_cmp nat_cmp n m || is_some (get t n)))
    → AllByRecursion P (ids_of kind c) → (n : ℕ) → is_some (get (fold step empty (ids_of kind c)) n) ≡ is_some (get c (key_by kind n))
rows_of {A = A} kind c step P one each n =
    rows_there step P one (ids_of kind c) empty n each
    ∙ ap (λ (o : Option A). list_any (eq_by_cmp nat_cmp n) (ids_of kind c) || is_some o) (get-empty {X = A} nat_cmp n)
    ∙ or-false (list_any (eq_by_cmp nat_cmp n) (ids_of kind c))
    ∙ in_ids kind c n

-- ---- one table of all: it moves with the keys of its kind, and stays with the others

moves : {A B : Type 0} (g : A → B) (step : A → ℕ → A) (step' : B → ℕ → B) → ((a : A) (n : ℕ) → g (step a n) ≡ step' (g a) n)
    → (ns : List ℕ) (a : A) → g (fold step a ns) ≡ fold step' (g a) ns
moves g step step' same [] a = refl
moves g step step' same (n ∷ ns) a = moves g step step' same ns (step a n) ∙ ap (λ b. fold step' b ns) (same a n)

remains : {A B : Type 0} (g : A → B) (step : A → ℕ → A) → ((a : A) (n : ℕ) → g (step a n) ≡ g a) → (ns : List ℕ) (a : A)
    → g (fold step a ns) ≡ g a
remains g step same [] a = refl
remains g step same (n ∷ ns) a = remains g step same ns (step a n) ∙ same a n

-- kind after kind, where a part of all moves with the keys of one kind alone
module _ {A B : Type 0} (c : Configuration) (g : A → B) (step : Kind → A → ℕ → A) (own : B → ℕ → B) where
  abbrev over : A → List Kind → A
  over a ks = fold (λ a k. fold (step k) a (ids_of k c)) a ks

  abbrev StaysWith : Kind → Type 0
  StaysWith k = (a : A) (n : ℕ) → g (step k a n) ≡ g a

  stays_over : (ks : List Kind) (a : A) → AllByRecursion StaysWith ks → g (over a ks) ≡ g a
  stays_over [] a stays = refl
  stays_over (k ∷ ks) a stays = stays_over ks (fold (step k) a (ids_of k c)) stays.1 ∙ remains g (step k) stays.0 (ids_of k c) a

  one_moves : (a : A) (before : List Kind) (k : Kind) (behind : List Kind) → ((a : A) (n : ℕ) → g (step k a n) ≡ own (g a) n)
      → AllByRecursion StaysWith before → AllByRecursion StaysWith behind
      → g (over (fold (step k) (over a before) (ids_of k c)) behind) ≡ fold own (g a) (ids_of k c)
  one_moves a before k behind same stays stays_then =
      stays_over behind (fold (step k) (over a before) (ids_of k c)) stays_then
      ∙ moves g (step k) own same (ids_of k c) (over a before)
      ∙ ap (λ b. fold own b (ids_of k c)) (stays_over before a stays)

module _ (c : Configuration) where
  abbrev one : Kind → FrameData → ℕ → FrameData
  one kind d n = frames_after 0 d (first_change c (key_by kind n))

  abbrev runs : Kind → Runners → ℕ → Runners
  runs kind d n = runners_after d (first_change c (key_by kind n))

  abbrev filter_rows : FinMap nat_cmp FilterData → ℕ → FinMap nat_cmp FilterData
  filter_rows t n = row_after new_filter None (get c (Filter n)) t n

  abbrev gate_rows : FinMap nat_cmp GateData → ℕ → FinMap nat_cmp GateData
  gate_rows t n = row_after new_gate None (get c (Gate n)) t n

  abbrev meter_rows : FinMap nat_cmp MeterData → ℕ → FinMap nat_cmp MeterData
  meter_rows t n = meter_row_after 0 None (meter_of (get c (Meter n))) t n

  abbrev port_runs : FinMap nat_cmp (Kept PortEntry) → ℕ → FinMap nat_cmp (Kept PortEntry)
  port_runs t n = row_after fresh None (get c (Port n)) t n

  abbrev gate_runs : FinMap nat_cmp (Kept GateEntry) → ℕ → FinMap nat_cmp (Kept GateEntry)
  gate_runs t n = row_after fresh None (get c (Gate n)) t n

  filters_are : (begun_frames c).filters ≡ fold filter_rows empty (ids_of kinds.Filter c)
  filters_are =
      one_moves c (λ d. d.filters) one filter_rows no_frames (kinds.Port ∷ []) kinds.Filter (kinds.Gate ∷ kinds.Meter ∷ [])
      (λ d n. refl) ((λ d n. refl), tt) ((λ d n. refl), ((λ d n. refl), tt))

  gates_are : (begun_frames c).gates ≡ fold gate_rows empty (ids_of kinds.Gate c)
  gates_are =
      one_moves c (λ d. d.gates) one gate_rows no_frames (kinds.Port ∷ kinds.Filter ∷ []) kinds.Gate (kinds.Meter ∷ [])
      (λ d n. refl) ((λ d n. refl), ((λ d n. refl), tt)) ((λ d n. refl), tt)

  meters_are : (begun_frames c).meters ≡ fold meter_rows empty (ids_of kinds.Meter c)
  meters_are =
      one_moves c (λ d. d.meters) one meter_rows no_frames (kinds.Port ∷ kinds.Filter ∷ kinds.Gate ∷ []) kinds.Meter []
      (λ d n. refl) ((λ d n. refl), ((λ d n. refl), ((λ d n. refl), tt))) tt

  port_runners_are : (begun_runners c).ports ≡ fold port_runs empty (ids_of kinds.Port c)
  port_runners_are =
      one_moves c (λ d. d.ports) runs port_runs no_runners [] kinds.Port (kinds.Filter ∷ kinds.Gate ∷ kinds.Meter ∷ [])
      (λ d n. refl) tt ((λ d n. refl), ((λ d n. refl), ((λ d n. refl), tt)))

  gate_runners_are : (begun_runners c).gates ≡ fold gate_runs empty (ids_of kinds.Gate c)
  gate_runners_are =
      one_moves c (λ d. d.gates) runs gate_runs no_runners (kinds.Port ∷ kinds.Filter ∷ []) kinds.Gate (kinds.Meter ∷ [])
      (λ d n. refl) ((λ d n. refl), ((λ d n. refl), tt)) ((λ d n. refl), tt)

  meter_there : (l : Limits) → IsWellKept l c → (n : ℕ) → IsSome (get c (Meter n)) → IsSome (meter_of (get c (Meter n)))
  meter_there l kept n there = by_option (get c (Meter n))
      (λ none. let never : false ≡ true = ap is_some (sym none) ∙ there in absurd (cc))
      (λ r some. ap (λ o. is_some (meter_of o)) some ∙ is_meter r (kept.within (Meter n) r some).1)
    where
      is_meter : (r : Record) → HoldsRecord l (Meter n) r → IsSome (meter_of (Some r))
      is_meter (records.Port r) h = absurd h
      is_meter (records.Filter r) h = absurd h
      is_meter (records.Gate r) h = absurd h
      is_meter (records.Meter r) h = refl

  pub begun_keys : (l : Limits) → IsWellKept l c → HasKeys (begun_runners c) (begun_frames c) c
  begun_keys l kept = record {
    ports = λ n. ap (λ t. is_some (get t n)) port_runners_are
        ∙ rows_of kinds.Port c port_runs (λ m. IsSome (get c (Port m))) (λ t m q there. created fresh (get c (Port m)) t m q there)
        (each_there kinds.Port c) n;
    gates = λ n. ap (λ t. is_some (get t n)) gate_runners_are
        ∙ rows_of kinds.Gate c gate_runs (λ m. IsSome (get c (Gate m))) (λ t m q there. created fresh (get c (Gate m)) t m q there)
        (each_there kinds.Gate c) n;
    frames = record {
      filters = λ n. ap (λ t. is_some (get t n)) filters_are
          ∙ rows_of kinds.Filter c filter_rows (λ m. IsSome (get c (Filter m)))
          (λ t m q there. created new_filter (get c (Filter m)) t m q there) (each_there kinds.Filter c) n;
      gates = λ n. ap (λ t. is_some (get t n)) gates_are
          ∙ rows_of kinds.Gate c gate_rows (λ m. IsSome (get c (Gate m))) (λ t m q there. created new_gate (get c (Gate m)) t m q there)
          (each_there kinds.Gate c) n;
      meters = λ n. ap (λ t. is_some (get t n)) meters_are
          ∙ rows_of kinds.Meter c meter_rows (λ m. IsSome (get c (Meter m)))
          (λ t m q there. created_meter (meter_of (get c (Meter m))) t m q (meter_there l kept m there)) (each_there kinds.Meter c) n;
    };
  }

  -- ---- a runner that is there is fresh

  fresh_rows : {E : Type 0} (key : ℕ → Key) (ns : List ℕ) (t : FinMap nat_cmp (Kept E)) → Each (λ n kept. kept ≡ fresh) t
      → Each (λ n kept. kept ≡ fresh) (fold (λ d m. row_after fresh None (get c (key m)) d m) t ns)
  fresh_rows key [] t h = h
  fresh_rows key (m ∷ ns) t h = fresh_rows key ns (row_after fresh None (get c (key m)) t m)
      (each_row (λ n kept. kept ≡ fresh) fresh None (get c (key m)) t m h (λ n. refl))

  pub begun_fresh : AreFresh (begun_runners c)
  begun_fresh = record {
    ports = λ n k is. fresh_rows (λ m. Port m) (ids_of kinds.Port c) empty (each_empty (λ n kept. kept ≡ fresh)) n k
        (ap (λ t. get t n) (sym port_runners_are) ∙ is);
    gates = λ n k is. fresh_rows (λ m. Gate m) (ids_of kinds.Gate c) empty (each_empty (λ n kept. kept ≡ fresh)) n k
        (ap (λ t. get t n) (sym gate_runners_are) ∙ is);
  }
