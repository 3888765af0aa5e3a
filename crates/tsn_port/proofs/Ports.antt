-- In a bridge the entries are such as a mirror of any of its ports follows.
use Rattle.std.proofs.Common.{◌≡◌, ◌∙◌, ◌≤◌, ℕ, true, List, [], ◌∷◌, Option, Some, None, ap, arith, refl, subst, sym}
use Rattle.std.specs.List.{fold}
use Rattle.std.specs.FinMap.{get}
use Rattle.tsn_types.specs.declared.keys.Key.{Key}
use Rattle.tsn_types.specs.declared.keys.Key.TheVariants.{Port}
use Rattle.tsn_types.specs.declared.limits.Limits.{Limits}
use Rattle.tsn_types.specs.declared.records.PortEntry.{PortEntry}
use Rattle.tsn_types.specs.declared.records.PortGates.{PortGates}
use Rattle.tsn_types.specs.declared.records.Record.{Record}
use Rattle.tsn_types.specs.declared.records.Record.TheVariants as records
use Rattle.tsn_types.specs.Keys.{same_key}
use Rattle.tsn_types.specs.Limits.{HoldsRecord}
use Rattle.tsn_types.specs.Refusals.{least}
use Rattle.tsn_edit.specs.Configuration.{Configuration, IsWellKept}
use Rattle.tsn_edit.specs.Parts.{Change, inverse}
use Rattle.tsn_edit.specs.Runs.{IsGood}
use Rattle.tsn_edit.proofs.KeyFacts.{one_key}
use Rattle.tsn_schedule.specs.Acts.{IsHistory, last_instant}
use Rattle.tsn_schedule.specs.States.{state_in}
use Rattle.tsn_entries.specs.declared.entries.Act.{Act as Asked}
use Rattle.tsn_entries.specs.declared.entries.Act.TheVariants as asked
use Rattle.tsn_entries.specs.declared.entries.Entry.{Entry}
use Rattle.tsn_entries.specs.declared.entries.What.{What}
use Rattle.tsn_entries.specs.declared.entries.What.TheVariants.{Made, Undone, Redone, Acted, Settled}
use Rattle.tsn_entries.specs.Entries.{Applied, applies, changes, collect, undone, with_entry}
use Rattle.tsn_entries.specs.Finding.{own_standing}
use Rattle.tsn_undo.specs.Ledger.{Ledger, present}
use Rattle.tsn_undo.specs.UndoAll.{with_undone}
use Rattle.tsn_undo.proofs.Making.{kept_now}
use Rattle.tsn_chain.specs.declared.state.State.TheVariants as states
use Rattle.tsn_chain.specs.State.{port_state}
use Rattle.tsn_bridge.specs.Acts.{act_rule, acted_state, enabled_at, has_entry, instant}
use Rattle.tsn_bridge.specs.Beginning.{Opens, begun}
use Rattle.tsn_bridge.specs.Histories.{Answered, AreInRange, Leads}
use Rattle.tsn_bridge.specs.Later.{ActsAreBy, IsWhole}
use Rattle.tsn_bridge.specs.Looking.{last_at, shown_at}
use Rattle.tsn_bridge.specs.Objects.{Object, port_at, port_schedule}
use Rattle.tsn_bridge.specs.State.{State}
use Rattle.tsn_bridge.specs.Families.{Family, family}
use Rattle.tsn_bridge.proofs.Families.{ActDone, AllUndone, Changed, FrameTaken, Greeted, Left, Same, SettledTo, leaves}
use Rattle.tsn_bridge.proofs.KeySteps.{applied_finds}
use Rattle.tsn_bridge.proofs.LastActs.{all_last}
use Rattle.tsn_bridge.proofs.Later.{goes_on, whole_begun}
use Rattle.tsn_bridge.proofs.Telling.{held}
use Rattle.tsn_bridge.proofs.TiedActs.{changed_by, value_is, value_step}
use Rattle.tsn_port.specs.Mirrors.{AreOfPort, IsOfPort, ShowsGates, mirrored, shown_by}
use Rattle.tsn_port.proofs.Acting.{AreActs, Finds, acted_history, acts_now, acts_push, change_history}
use Rattle.tsn_port.proofs.Taking.{after}

-- ---- each record that a port has is a port's

record_at : (l : Limits) (n : ℕ) (r : Record) → HoldsRecord l (Port n) r → (p : PortGates) × (r ≡ records.Port p)
record_at l n (records.Port p) h = (p, refl)
record_at l n r h = absurd h

pub port_of : (l : Limits) (c : Configuration) (n : ℕ) → IsWellKept l c → 1 ≤ n → n ≤ l.ports
    → (p : PortGates) × (get c (Port n) ≡ Some (records.Port p))
port_of l c n kept low high =
    let there = held (get c (Port n)) (kept.ports n low high) in
    let is = record_at l n there.0 (kept.within (Port n) there.0 there.1).1 in
    (is.0, there.1 ∙ ap Some is.1)

module _ (l : Limits) (n : ℕ) (low : 1 ≤ n) (high : n ≤ l.ports) where
  of_port : (c : Configuration) (o : Object PortEntry) → IsWellKept l c → o.value ≡ get c (Port n) → IsHistory o.acts → IsOfPort o
  of_port c o kept at h = let p = port_of l c n kept low high in record { value = p.0; value_is = at ∙ p.1; history = h }

  -- what the entries applied replays from c
  abbrev pub Replays : Configuration → List Entry → Type 0
  Replays c es = IsGood l c (changes (collect applies es))

  pub kept_after : (c : Configuration) (number session : ℕ) (w : What) (es : List Entry) → IsWellKept l c
      → Replays c (record { number = number; session = session; what = w } ∷ es) → IsWellKept l (changed_by c (applies w))
      × Replays (changed_by c (applies w)) es
  kept_after c number session (Made e) es kept good = (good.0.kept, good.1)
  kept_after c number session (Undone m e) es kept good = (good.0.kept, good.1)
  kept_after c number session (Redone m e) es kept good = (good.0.kept, good.1)
  kept_after c number session (Acted act key a) es kept good = (kept, good)
  kept_after c number session (Settled upto) es kept good = (kept, good)

  all_of_port : (es : List Entry) (c : Configuration) (o : Object PortEntry) → IsWellKept l c → Replays c es → o.value ≡ get c (Port n)
      → AreActs n o es → AreOfPort n o es
  all_of_port [] c o kept good at acts = tt
  all_of_port (e ∷ es) c o kept good at acts =
      let next = kept_after c e.number e.session e.what es kept good in
      let value = value_step port_schedule (Port n) c o e.what at in (
        of_port (changed_by c (applies e.what)) (after n o e) next.0 value acts.0,
        all_of_port es (changed_by c (applies e.what)) (after n o e) next.0 next.1 value acts.1,
      )

-- ---- each step leaves the acts of a port in order of time, each with effect

-- the port as the journal began
abbrev first : ℕ → Ledger → Object PortEntry
first n b = record { value = get b.opening (Port n); acts = [] }

abbrev ActsOf : ℕ → Ledger → Type 0
ActsOf n b = AreActs n (first n b) b.entries

now_history : (n : ℕ) (b : Ledger) → ActsOf n b → IsHistory (port_at b n).acts
now_history n b h = acts_now n (first n b) b.entries tt h

changed : (n m : ℕ) (b : Ledger) (es : List Entry) (w : What) (e : Change) → applies w ≡ Some e → AreActs n (first n b) es
    → AreActs n (first n b) (with_entry es m w)
changed n m b es w e is h =
    acts_push n (first n b) es _ h (change_history n (fold (after n) (first n b) es) w e is (acts_now n (first n b) es tt h))

all_undone : (n m : ℕ) (b : Ledger) (es : List Entry) (xs : List Applied) → AreActs n (first n b) es
    → AreActs n (first n b) (with_undone es m xs)
all_undone n m b es [] h = h
all_undone n m b es (x ∷ xs) h = changed n m b (with_undone es m xs) (undone x) (inverse x.change) refl (all_undone n m b es xs h)

module _ (n : ℕ) (s : State) (m : ℕ) (low : 1 ≤ n) (high : n ≤ s.book.limits.ports) (whole : IsWhole s) (by : ActsAreBy s)
    (h : ActsOf n s.book) where
  -- an act on any key
  acted : (act : Asked) (key : Key) (now : ℕ) → least (act_rule s m act key now).causes ≡ None → ActsOf n (acted_state s m act key now).book
  acted act key now none =
      let o = port_at s.book n in
      let p = port_of s.book.limits (present s.book) n (kept_now s.book whole.journal) low high in
      let at : o.value ≡ get (present s.book) (Port n) = value_is port_schedule (Port n) s.book in
      let last : last_instant o.acts ≤ instant s now = omega
      (arith, all_last port_schedule (Port n) s.time (first n s.book) s.book.entries by (omega arith)) in
      let finds : same_key (Port n) key ≡ true → act ≡ asked.Apply → Finds o =
      λ here is.
      let k : Port n ≡ key = one_key (Port n) key here in
      let free = applied_finds s m key now (subst (λ a. least (act_rule s m a key now).causes ≡ None) is none) in
      record {
        enabled = subst (λ x. enabled_at s.book x ≡ true) (sym k) free.enabled;
        value = p.0;
        value_is = at ∙ p.1;
        some = sym (ap has_entry (ap (get (present s.book)) (sym k) ∙ p.1)) ∙ free.some;
        cycle = ((kept_now s.book whole.journal).in_range (Port n) (records.Port p.0) p.1).admin.cycle.0;
      } in
      acts_push n (first n s.book) s.book.entries _ h (acted_history n o act key (instant s now) finds (now_history n s.book h) last)

  acts_kept : (f : Family) (new : State) → Left s m f new → ActsOf n new.book
  acts_kept f new Same = h
  acts_kept f new (Greeted name) = h
  acts_kept f new (Changed w e apply good) = changed n m s.book s.book.entries w e apply h
  acts_kept f new (AllUndone free) = all_undone n m s.book s.book.entries (own_standing s.book.entries m) h
  acts_kept f new (SettledTo upto) = acts_push n (first n s.book) s.book.entries _ h (now_history n s.book h)
  acts_kept f new (ActDone act key now none) = acted act key now none
  acts_kept f new (FrameTaken frame now x of is) = h

-- ---- over all that sessions ask

all_keep_acts : (n : ℕ) (ts : List Answered) (s now : State) → 1 ≤ n → n ≤ s.book.limits.ports → IsWhole s → ActsAreBy s → ActsOf n s.book
    → AreInRange ts → Leads s ts now → IsWhole now × ActsOf n now.book × (now.book.limits ≡ s.book.limits)
all_keep_acts n [] s now low high whole by h ranges same =
    subst (λ (t : State). IsWhole t × ActsOf n t.book × (t.book.limits ≡ s.book.limits)) (sym same) (whole, h, refl)
all_keep_acts n (t ∷ ts) s now low high whole by h ranges (between, step, rest) =
    let one = goes_on s t.ask.session t.ask.command t.reply between whole ranges.0 step in
    let fits : n ≤ between.book.limits.ports = subst (λ (l : Limits). n ≤ l.ports) (sym one.1.limits) high in
    let f = family t.ask.command in
    let acts = acts_kept n s t.ask.session low high whole by h f between (leaves s t.ask.session f t.reply between step).how in
    let more = all_keep_acts n ts between now low fits one.0 (one.2 by) acts ranges.1 rest in
    (more.0, more.1, more.2 ∙ one.1.limits)

pub entries_of_ports : (l : Limits) (given : List (Key × Record)) (asks : List Answered) (now : State) (n : ℕ) (opening : PortGates)
    → Opens l given → AreInRange asks → Leads (begun l given) asks now → 1 ≤ n → n ≤ l.ports
    → get now.book.opening (Port n) ≡ Some (records.Port opening) → AreOfPort n (mirrored n opening []) now.book.entries
entries_of_ports l given asks now n opening opens ranges leads low high at =
    let end = all_keep_acts n asks (begun l given) now low high (whole_begun l given opens) tt tt ranges leads in
    let fits : n ≤ now.book.limits.ports = subst (λ (x : Limits). n ≤ x.ports) (sym end.2) high in
    subst (λ v. AreOfPort n (record { value = v; acts = [] }) now.book.entries) at
    (all_of_port now.book.limits n low fits now.book.entries now.book.opening (first n now.book) (end.0).journal.kept
    (end.0).journal.replays refl end.1)

-- ---- a mirror that took all entries tells what the bridge tells

port_is : (b : Ledger) (n : ℕ) (opening : PortGates) → get b.opening (Port n) ≡ Some (records.Port opening)
    → port_at b n ≡ mirrored n opening b.entries
port_is b n opening at = ap (λ (v : Option Record). fold (after n) (record { value = v; acts = [] }) b.entries) at

shown_is : (p : PortGates) (o : Option PortEntry) → port_state p o ≡ states.Port (shown_by p o)
shown_is p None = refl
shown_is p (Some e) = refl

pub tells_gates : (b : Ledger) (n : ℕ) (opening : PortGates) (t gates : ℕ) → get b.opening (Port n) ≡ Some (records.Port opening)
    → ShowsGates (mirrored n opening b.entries) t gates → shown_at b (Port n) (get (present b) (Port n)) t ≡ Some (states.Port gates)
tells_gates b n opening t gates at shows =
    let s : ShowsGates (port_at b n) t gates = subst (λ o. ShowsGates o t gates) (sym (port_is b n opening at)) shows in
    let v = sym (value_is port_schedule (Port n) b) ∙ s.value_is in
    ap (λ w. shown_at b (Port n) w t) v
    ∙ ap Some (shown_is s.value (state_in (λ (e : PortEntry). e.interval) (port_at b n).acts t)
    ∙ ap (λ g. states.Port g) (sym s.gates_are))

pub tells_past : (b : Ledger) (n : ℕ) (opening : PortGates) → get b.opening (Port n) ≡ Some (records.Port opening)
    → last_instant (mirrored n opening b.entries).acts ≡ last_at b (Port n)
tells_past b n opening at = ap (λ (o : Object PortEntry). last_instant o.acts) (sym (port_is b n opening at))
