-- The drafts of records whose numbers are in their ranges, and no others, pass as these records.
use Rattle.std.proofs.Common.{◌≡◌, ℕ, ◌≤◌, ◌&&◌, List, [], ◌∷◌, map, Bool, true, false, if◌then◌else◌, nat_le, Option, Some, None, Result, Ok, Err, IfSome, refl, sym, ap₂, subst, arith, leb-true}
use Rattle.std.specs.List.{AllByRecursion}
use Rattle.std.proofs.lemmas.Bool.{and_parts, le-leb}
use Rattle.tsn_types.specs.declared.keys.Key.{Key}
use Rattle.tsn_types.specs.declared.records.PortEntry.{PortEntry}
use Rattle.tsn_types.specs.declared.records.GateEntry.{GateEntry}
use Rattle.tsn_types.specs.declared.records.Schedule.{Schedule}
use Rattle.tsn_types.specs.declared.records.PortGates.{PortGates}
use Rattle.tsn_types.specs.declared.records.StreamGate.{StreamGate}
use Rattle.tsn_types.specs.declared.records.StreamFilter.{StreamFilter}
use Rattle.tsn_types.specs.declared.records.FlowMeter.{FlowMeter}
use Rattle.tsn_types.specs.declared.refusals.Field.{Field}
use Rattle.tsn_types.specs.declared.refusals.Field.TheVariants as fields
use Rattle.tsn_types.specs.InRange.{FilterInRange, GateEntryInRange, GateInRange, MeterInRange, PortEntryInRange, PortInRange, ScheduleInRange}
use Rattle.tsn_types.specs.Numbers.{Within, greatest_gate_states, greatest_handle, greatest_instance, greatest_instant, greatest_max_sdu, greatest_priority, longest_cycle, longest_extension, longest_interval, most_octets}
use Rattle.tsn_records.specs.Answers.{◌>>=◌, each}
use Rattle.tsn_records.specs.Ranges.{within, within_or_none, port_entry, gate_entry, schedule, port, gate, filter, meter}
use Rattle.tsn_records.specs.Values.{port_entry_draft, gate_entry_draft, schedule_draft, port_draft, gate_draft, filter_draft, meter_draft}
use Rattle.tsn_records.specs.declared.drafts.PortEntryDraft.{PortEntryDraft}
use Rattle.tsn_records.specs.declared.drafts.GateEntryDraft.{GateEntryDraft}
use Rattle.tsn_records.specs.declared.drafts.ScheduleDraft.{ScheduleDraft}
use Rattle.tsn_records.specs.declared.drafts.PortDraft.{PortDraft}
use Rattle.tsn_records.specs.declared.drafts.GateDraft.{GateDraft}
use Rattle.tsn_records.specs.declared.drafts.FilterDraft.{FilterDraft}
use Rattle.tsn_records.specs.declared.drafts.MeterDraft.{MeterDraft}
use Rattle.tsn_records.specs.declared.unread.Unread.{Unread}
use Rattle.tsn_records.specs.declared.unread.Unread.TheVariants.{Range}
use Rattle.tsn_records.proofs.Steps.{steps, only, last_step}

-- ---- numbers that pass

tested : (b : Bool) (field : Field) (n m : ℕ) → (if b then Ok n else Err (Range field)) ≡ Ok m → (b ≡ true) × (n ≡ m)
tested true field n m h = (refl, only (Ok n) n m refl h)
tested false field n m h = cc

pub passed : (field : Field) (least most n m : ℕ) → within field least most n ≡ Ok m → (n ≡ m) × Within least most m
passed field least most n m h =
    let test = tested (nat_le least n && nat_le n most) field n m h in
    let parts = and_parts _ _ test.0 in
    (test.1, subst (Within least most) test.1 (leb-true _ _ parts.0, leb-true _ _ parts.1))

passed_or_none : (field : Field) (least most : ℕ) (o p : Option ℕ) → within_or_none field least most o ≡ Ok p
    → (o ≡ p) × IfSome p (Within least most)
passed_or_none field least most None p h = subst (λ q. (None ≡ q) × IfSome q (Within least most)) (only (Ok None) None p refl h) (refl, tt)
passed_or_none field least most (Some n) p h =
    last_step (within field least most n) p (λ q. (Some n ≡ q) × IfSome q (Within least most)) Some h (λ number is.
    let known = passed field least most n number is in (rw known.0, known.1))

pub at_most : (field : Field) (most n m : ℕ) → within field 0 most n ≡ Ok m → (n ≡ m) × (m ≤ most)
at_most field most n m h = let known = passed field 0 most n m h in (known.0, known.1.1)

pub instance_passed : (n : ℕ) (k : Key) (P : Key → Type 0) (of : ℕ → Key)
    → (within fields.Key 0 greatest_instance n >>= λ m. Ok (of m)) ≡ Ok k → ((m : ℕ) → n ≡ m → m ≤ greatest_instance → P (of m)) → P k
instance_passed n k P of h holds =
    last_step (within fields.Key 0 greatest_instance n) k P of h (λ m is.
    let known = at_most fields.Key greatest_instance n m is in holds m known.0 known.1)

upper : (most : ℕ) (o : Option ℕ) → IfSome o (Within 0 most) → IfSome o (λ n. n ≤ most)
upper most None h = tt
upper most (Some n) h = h.1

-- a step that tests a number, or one that may be none: it is in range, and the next step goes on with it
number_step : {A G : Type 0} (field : Field) (least most n : ℕ) (next : ℕ → Result A Unread) (a : A)
    → (within field least most n >>= next) ≡ Ok a → (Within least most n → next n ≡ Ok a → G) → G
number_step field least most n next a h more =
    steps (within field least most n) next a h (λ m m_is m_next.
    let known = passed field least most n m m_is in
    more (subst (Within least most) (sym known.0) known.1) (subst (λ k. next k ≡ Ok a) (sym known.0) m_next))

maybe_step : {A G : Type 0} (field : Field) (least most : ℕ) (o : Option ℕ) (next : Option ℕ → Result A Unread) (a : A)
    → (within_or_none field least most o >>= next) ≡ Ok a → (IfSome o (Within least most) → next o ≡ Ok a → G) → G
maybe_step field least most o next a h more =
    steps (within_or_none field least most o) next a h (λ p p_is p_next.
    let known = passed_or_none field least most o p p_is in
    more (subst (λ q. IfSome q (Within least most)) (sym known.0) known.1) (subst (λ q. next q ≡ Ok a) (sym known.0) p_next))

-- ---- entries that pass

port_entry_passed : (d : PortEntryDraft) (e : PortEntry) → port_entry d ≡ Ok e → (d ≡ port_entry_draft e) × PortEntryInRange e
unfolding port_entry
port_entry_passed d e h =
    number_step fields.List 0 greatest_gate_states d.gates _ e h (λ gates gates_next.
    number_step fields.List 1 longest_interval d.interval _ e gates_next (λ interval interval_next.
    let found : PortEntry = record { gates = d.gates; interval = d.interval } in
    subst (λ x. (d ≡ port_entry_draft x) × PortEntryInRange x) (only (Ok found) found e refl interval_next)
    (refl, record { gates = gates.1; interval = interval })))

gate_entry_passed : (d : GateEntryDraft) (e : GateEntry) → gate_entry d ≡ Ok e → (d ≡ gate_entry_draft e) × GateEntryInRange e
unfolding gate_entry
gate_entry_passed d e h =
    maybe_step fields.List 0 greatest_priority d.ipv _ e h (λ ipv ipv_next.
    number_step fields.List 1 longest_interval d.interval _ e ipv_next (λ interval interval_next.
    maybe_step fields.List 0 most_octets d.octets _ e interval_next (λ octets octets_next.
    let found : GateEntry = record { is_open = d.is_open; ipv = d.ipv; interval = d.interval; octets = d.octets } in
    subst (λ x. (d ≡ gate_entry_draft x) × GateEntryInRange x) (only (Ok found) found e refl octets_next)
    (refl, record { ipv = upper greatest_priority d.ipv ipv; interval = interval; octets = upper most_octets d.octets octets }))))

each_passed : {D E : Type 0} (range : D → Result E Unread) (draft : E → D) (P : E → Type 0)
    → ((d : D) (e : E) → range d ≡ Ok e → (d ≡ draft e) × P e) → (ds : List D) (es : List E) → each range ds ≡ Ok es
    → (ds ≡ map draft es) × AllByRecursion P es
each_passed range draft P one [] es h = subst (λ l. ([] ≡ map draft l) × AllByRecursion P l) (only (Ok []) [] es refl h) (refl, tt)
each_passed range draft P one (d ∷ ds) es h =
    steps (range d) _ es h (λ first first_is first_next.
    steps (each range ds) _ es first_next (λ rest rest_is rest_next.
    let here = one d first first_is in
    let later = each_passed range draft P one ds rest rest_is in
    subst (λ l. ((d ∷ ds) ≡ map draft l) × AllByRecursion P l) (only (Ok (first ∷ rest)) (first ∷ rest) es refl rest_next)
    (ap₂ ◌∷◌ here.0 later.0, (here.1, later.1))))

-- ---- records that pass

schedule_passed : {D E : Type 0} (range : D → Result E Unread) (draft : E → D) (P : E → Type 0)
    → ((d : D) (e : E) → range d ≡ Ok e → (d ≡ draft e) × P e) → (d : ScheduleDraft D) (s : Schedule E) → schedule range d ≡ Ok s
    → (d ≡ schedule_draft draft s) × ScheduleInRange P s
unfolding schedule
schedule_passed {D} {E} range draft P one d s h =
    steps (each range d.list) _ s h (λ list list_is list_next.
    number_step fields.Cycle 1 longest_cycle d.cycle _ s list_next (λ cycle cycle_next.
    number_step fields.Extension 0 longest_extension d.extension _ s cycle_next (λ extension extension_next.
    number_step fields.Base 0 greatest_instant d.base _ s extension_next (λ base base_next.
    let found : Schedule E = record { list = list; cycle = d.cycle; extension = d.extension; base = d.base } in
    let l = each_passed range draft P one d.list list list_is in
    subst (λ y. (d ≡ schedule_draft draft y) × ScheduleInRange P y) (only (Ok found) found s refl base_next)
    (rw (← l.0), record { list = l.1; cycle = cycle; extension = extension.1; base = base.1 })))))

pub port_passed : (d : PortDraft) (r : PortGates) → port d ≡ Ok r → (d ≡ port_draft r) × PortInRange r
unfolding port
port_passed d r h =
    number_step fields.Gates 0 greatest_gate_states d.gates _ r h (λ gates gates_next.
    steps (schedule port_entry d.admin) _ r gates_next (λ admin admin_is admin_next.
    let found : PortGates = record { gates = d.gates; admin = admin } in
    let a = schedule_passed port_entry port_entry_draft PortEntryInRange port_entry_passed d.admin admin admin_is in
    subst (λ x. (d ≡ port_draft x) × PortInRange x) (only (Ok found) found r refl admin_next)
    (rw (← a.0), record { gates = gates.1; admin = a.1 })))

pub gate_passed : (d : GateDraft) (r : StreamGate) → gate d ≡ Ok r → (d ≡ gate_draft r) × GateInRange r
unfolding gate
gate_passed d r h =
    maybe_step fields.Ipv 0 greatest_priority d.ipv _ r h (λ ipv ipv_next.
    steps (schedule gate_entry d.admin) _ r ipv_next (λ admin admin_is admin_next.
    let found : StreamGate = record
    { is_open = d.is_open; ipv = d.ipv; invalid_rx = d.invalid_rx; octets_exceeded = d.octets_exceeded; admin = admin } in
    let a = schedule_passed gate_entry gate_entry_draft GateEntryInRange gate_entry_passed d.admin admin admin_is in
    subst (λ x. (d ≡ gate_draft x) × GateInRange x) (only (Ok found) found r refl admin_next)
    (rw (← a.0), record { ipv = upper greatest_priority d.ipv ipv; admin = a.1 })))

pub filter_passed : (d : FilterDraft) (r : StreamFilter) → filter d ≡ Ok r → (d ≡ filter_draft r) × FilterInRange r
unfolding filter
filter_passed d r h =
    maybe_step fields.Handle 0 greatest_handle d.handle _ r h (λ handle handle_next.
    maybe_step fields.Priority 0 greatest_priority d.priority _ r handle_next (λ priority priority_next.
    number_step fields.Gate 0 greatest_instance d.gate _ r priority_next (λ gate gate_next.
    maybe_step fields.MaxSdu 1 greatest_max_sdu d.max_sdu _ r gate_next (λ max_sdu max_sdu_next.
    maybe_step fields.Meter 0 greatest_instance d.meter _ r max_sdu_next (λ meter meter_next.
    let found : StreamFilter = record
    { handle = d.handle; priority = d.priority; gate = d.gate; max_sdu = d.max_sdu; meter = d.meter; oversize = d.oversize } in
    subst (λ x. (d ≡ filter_draft x) × FilterInRange x) (only (Ok found) found r refl meter_next) (
      refl,
      record {
        handle = upper greatest_handle d.handle handle;
        priority = upper greatest_priority d.priority priority;
        gate = gate.1;
        max_sdu = max_sdu;
        meter = upper greatest_instance d.meter meter;
      },
    ))))))

pub meter_passed : (d : MeterDraft) (r : FlowMeter) → meter d ≡ Ok r → (d ≡ meter_draft r) × MeterInRange r
unfolding meter
meter_passed d r h =
    number_step _ 0 _ d.cir _ r h (λ cir cir_next. number_step _ 0 _ d.cbs _ r cir_next (λ cbs cbs_next.
    number_step _ 0 _ d.eir _ r cbs_next (λ eir eir_next. number_step _ 0 _ d.ebs _ r eir_next (λ ebs ebs_next.
    let found : FlowMeter = record
    { cir = d.cir; cbs = d.cbs; eir = d.eir; ebs = d.ebs; cf = d.cf; aware = d.aware; drop_yellow = d.drop_yellow; all_red = d.all_red } in
    subst (λ x. (d ≡ meter_draft x) × MeterInRange x) (only (Ok found) found r refl ebs_next)
    (refl, record { cir = cir.1; cbs = cbs.1; eir = eir.1; ebs = ebs.1 })))))

-- ---- records in range pass

pub within_ok : (field : Field) (least most n : ℕ) → Within least most n → within field least most n ≡ Ok n
within_ok field least most n fits = rw (le-leb least n fits.0, le-leb n most fits.1) refl

within_or_none_ok : (field : Field) (least most : ℕ) (o : Option ℕ) → IfSome o (Within least most)
    → within_or_none field least most o ≡ Ok o
within_or_none_ok field least most None fits = refl
within_or_none_ok field least most (Some n) fits = rw (within_ok field least most n fits) refl

pub at_most_ok : (field : Field) (most n : ℕ) → n ≤ most → within field 0 most n ≡ Ok n
at_most_ok field most n fits = within_ok field 0 most n (omega arith, fits)

at_most_or_none_ok : (field : Field) (most : ℕ) (o : Option ℕ) → IfSome o (λ n. n ≤ most) → within_or_none field 0 most o ≡ Ok o
at_most_or_none_ok field most None fits = refl
at_most_or_none_ok field most (Some n) fits = rw (at_most_ok field most n fits) refl

-- entry by entry
entries_back : {A B : Type 0} (P : A → Type 0) (f : B → Result A Unread) (draft : A → B) → ((x : A) → P x → f (draft x) ≡ Ok x)
    → (xs : List A) → AllByRecursion P xs → each f (map draft xs) ≡ Ok xs
entries_back P f draft one [] fits = refl
entries_back P f draft one (x ∷ xs) fits = rw (one x fits.0, entries_back P f draft one xs fits.1) refl

port_entry_back : (e : PortEntry) → PortEntryInRange e → port_entry (port_entry_draft e) ≡ Ok e
unfolding port_entry
port_entry_back e fits =
    rw (at_most_ok _ _ e.gates fits.gates, within_ok _ _ _ e.interval fits.interval) refl

gate_entry_back : (e : GateEntry) → GateEntryInRange e → gate_entry (gate_entry_draft e) ≡ Ok e
unfolding gate_entry
gate_entry_back e fits =
    rw (at_most_or_none_ok _ _ e.ipv fits.ipv, within_ok _ _ _ e.interval fits.interval, at_most_or_none_ok _ _ e.octets fits.octets) refl

schedule_back : {D E : Type 0} (range : D → Result E Unread) (draft : E → D) (P : E → Type 0) → ((e : E) → P e → range (draft e) ≡ Ok e)
    → (s : Schedule E) → ScheduleInRange P s → schedule range (schedule_draft draft s) ≡ Ok s
unfolding schedule
schedule_back range draft P one s fits = rw (
  entries_back P range draft one s.list fits.list,
  within_ok _ 1 longest_cycle s.cycle fits.cycle,
  at_most_ok _ longest_extension s.extension fits.extension,
  at_most_ok _ greatest_instant s.base fits.base,
) refl

pub port_back : (r : PortGates) → PortInRange r → port (port_draft r) ≡ Ok r
unfolding port
port_back r fits =
    rw (at_most_ok _ _ r.gates fits.gates, schedule_back _ _ PortEntryInRange port_entry_back r.admin fits.admin) refl

pub gate_back : (r : StreamGate) → GateInRange r → gate (gate_draft r) ≡ Ok r
unfolding gate
gate_back r fits =
    rw (at_most_or_none_ok _ _ r.ipv fits.ipv, schedule_back _ _ GateEntryInRange gate_entry_back r.admin fits.admin) refl

pub filter_back : (r : StreamFilter) → FilterInRange r → filter (filter_draft r) ≡ Ok r
unfolding filter
filter_back r fits = rw (
  at_most_or_none_ok _ greatest_handle r.handle fits.handle,
  at_most_or_none_ok _ greatest_priority r.priority fits.priority,
  at_most_ok _ greatest_instance r.gate fits.gate,
  within_or_none_ok _ 1 greatest_max_sdu r.max_sdu fits.max_sdu,
  at_most_or_none_ok _ greatest_instance r.meter fits.meter,
) refl

pub meter_back : (r : FlowMeter) → MeterInRange r → meter (meter_draft r) ≡ Ok r
unfolding meter
meter_back r fits =
    rw (at_most_ok _ _ r.cir fits.cir, at_most_ok _ _ r.cbs fits.cbs, at_most_ok _ _ r.eir fits.eir, at_most_ok _ _ r.ebs fits.ebs) refl
