-- A list applied with its base past gives its states at every later instant, until the next act on its key.
use Rattle.std.proofs.Common.{◌≡◌, ◌<◌, ◌≤◌, ◌-◌, ◌%◌, ℕ, true, false, Bool, cond, refl, sym, ◌∙◌, ap, List, [], ◌∷◌, Option, Some, None, subst, inl, inr, arith}
use Rattle.std.specs.Prelude.{IsSome, IsTrue, ◌++◌, ◌⊎◌, option_map}
use Rattle.std.specs.List.{AllByRecursion, fold}
use Rattle.std.proofs.lemmas.List.Sums.{fold-append}
use Rattle.std.specs.FinMap.{get}
use Rattle.tsn_types.specs.declared.keys.Key.{Key}
use Rattle.tsn_types.specs.declared.keys.Key.TheVariants.{Port, Gate}
use Rattle.tsn_types.specs.declared.records.GateEntry.{GateEntry}
use Rattle.tsn_types.specs.declared.records.PortEntry.{PortEntry}
use Rattle.tsn_types.specs.declared.records.PortGates.{PortGates}
use Rattle.tsn_types.specs.declared.records.Record.{Record}
use Rattle.tsn_types.specs.declared.records.Record.TheVariants as records
use Rattle.tsn_types.specs.declared.records.Schedule.{Schedule}
use Rattle.tsn_types.specs.declared.records.StreamGate.{StreamGate}
use Rattle.tsn_types.specs.declared.refusals.Refusal.TheVariants.{Memory}
use Rattle.tsn_types.specs.Keys.{same_key}
use Rattle.tsn_types.specs.Limits.{HoldsRecord, first_cause, holds_key}
use Rattle.tsn_edit.specs.Configuration.{IsWellKept}
use Rattle.tsn_edit.specs.Changes.{part_of}
use Rattle.tsn_edit.specs.Parts.{Part, parts}
use Rattle.tsn_edit.specs.Runs.{run}
use Rattle.tsn_edit.proofs.KeyFacts.{same_itself}
use Rattle.tsn_schedule.specs.Acts.{Act, Apply, Enable, is_enabled, last_instant, with_act}
use Rattle.tsn_schedule.specs.Entries.{entry_at}
use Rattle.tsn_schedule.specs.States.{state_in}
use Rattle.tsn_schedule.specs.Times.{change_of}
use Rattle.tsn_schedule.proofs.Meaning.{change_is_least}
use Rattle.tsn_schedule.proofs.Restored.{restored}
use Rattle.tsn_entries.specs.declared.entries.Act.TheVariants as asked
use Rattle.tsn_entries.specs.declared.entries.Entry.{Entry}
use Rattle.tsn_entries.specs.declared.entries.What.{What}
use Rattle.tsn_entries.specs.declared.entries.What.TheVariants.{Made, Undone, Redone, Acted, Settled}
use Rattle.tsn_undo.specs.Ledger.{Ledger, present}
use Rattle.tsn_undo.proofs.Adding.{nothing_push}
use Rattle.tsn_chain.specs.declared.state.State.{State as Shown}
use Rattle.tsn_chain.specs.declared.state.State.TheVariants as states
use Rattle.tsn_chain.specs.State.{gate_state, port_state}
use Rattle.tsn_commands.specs.declared.reply.Reply.{Reply}
use Rattle.tsn_commands.specs.declared.reply.Reply.TheVariants as replies
use Rattle.tsn_bridge.specs.Acts.{acted_state, apply_rule, enabled_at, has_list, instant, list_causes}
use Rattle.tsn_bridge.specs.Looking.{last_at, shown_at, states_rule}
use Rattle.tsn_bridge.specs.Objects.{Object, after_entry, after_part, gate_at, gate_schedule, lived, object, port_at, port_schedule, with_asked}
use Rattle.tsn_bridge.specs.Quiet.{IsQuiet, IsReplacement}
use Rattle.tsn_bridge.specs.Rule.{Allows, is_given}
use Rattle.tsn_bridge.specs.State.{State}
use Rattle.tsn_bridge.proofs.AtOnce.{done_of}
use Rattle.tsn_bridge.proofs.Causes.{none_of_list, within_list}
use Rattle.tsn_bridge.proofs.Following.{object_push}
use Rattle.tsn_bridge.proofs.KeySteps.{FindsList, applied_finds, states_free}
use Rattle.tsn_bridge.proofs.Stepping.{AllowsAt, accepted}
use Rattle.tsn_bridge.proofs.TiedActs.{value_is}

-- ---- quiet entries leave the acts, and the key there

kept : {A : Type 0} (before after : Option Record) (acts : List A) → IsSome before → IsSome after → lived before after acts ≡ acts
kept None after acts a b = (cc)
kept (Some q) None acts a b = (cc)
kept (Some q) (Some r) acts a b = refl

part_kept : {E : Type 0} (q : Option Part) (o : Object E) → IsReplacement q → (after_part o q).acts ≡ o.acts
part_kept None o h = refl
part_kept (Some p) o h = kept p.before p.after o.acts h.0 h.1

act_kept : {E : Type 0} (b : Bool) (o : Object E) (acts : List (Act E)) → b ≡ false
    → (cond b (record { value = o.value; acts = acts }) o).acts ≡ o.acts
act_kept true o acts e = (cc)
act_kept false o acts e = refl

-- an enable of an enabled key is no act
enable_kept : {E : Type 0} (b : Bool) (o : Object E) (a : ℕ) → is_enabled o.acts ≡ true
    → (cond b (record { value = o.value; acts = with_act (Enable a) o.acts }) o).acts ≡ o.acts
enable_kept true o a on = ap (λ is. cond is o.acts (Enable a ∷ o.acts)) on
enable_kept false o a on = refl

quiet_entry : {E : Type 0} (admin : Option Record → Option (Schedule E)) (k : Key) (o : Object E) (w : What) → is_enabled o.acts ≡ true
    → IsQuiet k w → (after_entry admin k o w).acts ≡ o.acts
quiet_entry admin k o (Made e) on h = part_kept (part_of k (parts e)) o h
quiet_entry admin k o (Undone n e) on h = part_kept (part_of k (parts e)) o h
quiet_entry admin k o (Redone n e) on h = part_kept (part_of k (parts e)) o h
quiet_entry admin k o (Acted asked.Enable key a) on h = enable_kept (same_key k key) o a on
quiet_entry admin k o (Acted asked.Disable key a) on h = act_kept (same_key k key) o (with_asked asked.Disable (admin o.value) a o.acts) h
quiet_entry admin k o (Acted asked.Apply key a) on h = act_kept (same_key k key) o (with_asked asked.Apply (admin o.value) a o.acts) h
quiet_entry admin k o (Settled upto) on h = refl

quiet_run : {E : Type 0} (admin : Option Record → Option (Schedule E)) (k : Key) (es : List Entry) (o : Object E) → is_enabled o.acts ≡ true
    → AllByRecursion (λ e. IsQuiet k e.what) es → (fold (λ (o : Object E) (e : Entry). after_entry admin k o e.what) o es).acts ≡ o.acts
quiet_run admin k [] o on h = refl
quiet_run {E = E} admin k (e ∷ es) o on h =
    let one = quiet_entry admin k o e.what on h.0 in
    quiet_run admin k es (after_entry admin k o e.what) (ap (λ (acts : List (Act E)). is_enabled acts) one ∙ on) h.1 ∙ one

part_there : {E : Type 0} (q : Option Part) (o : Object E) → IsReplacement q → IsSome o.value → IsSome (after_part o q).value
part_there None o h some = some
part_there (Some p) o h some = h.1

act_there : {E : Type 0} (b : Bool) (o : Object E) (acts : List (Act E)) → IsSome o.value
    → IsSome (cond b (record { value = o.value; acts = acts }) o).value
act_there true o acts some = some
act_there false o acts some = some

there_entry : {E : Type 0} (admin : Option Record → Option (Schedule E)) (k : Key) (o : Object E) (w : What) → IsQuiet k w → IsSome o.value
    → IsSome (after_entry admin k o w).value
there_entry admin k o (Made e) h some = part_there (part_of k (parts e)) o h some
there_entry admin k o (Undone n e) h some = part_there (part_of k (parts e)) o h some
there_entry admin k o (Redone n e) h some = part_there (part_of k (parts e)) o h some
there_entry admin k o (Acted act key a) h some = act_there (same_key k key) o (with_asked act (admin o.value) a o.acts) some
there_entry admin k o (Settled upto) h some = some

there_run : {E : Type 0} (admin : Option Record → Option (Schedule E)) (k : Key) (es : List Entry) (o : Object E)
    → AllByRecursion (λ e. IsQuiet k e.what) es → IsSome o.value
    → IsSome (fold (λ (o : Object E) (e : Entry). after_entry admin k o e.what) o es).value
there_run admin k [] o h some = some
there_run admin k (e ∷ es) o h some = there_run admin k es (after_entry admin k o e.what) h.1 (there_entry admin k o e.what h.0 some)

-- a later ledger of the same bridge, its map well kept, to which only quiet entries led
pub record GoesOn (k : Key) (b later : Ledger) : Type 0 where
  pub limits : later.limits ≡ b.limits
  pub opening : later.opening ≡ b.opening
  pub more : List Entry
  pub entries : later.entries ≡ b.entries ++ more
  pub quiet : AllByRecursion (λ e. IsQuiet k e.what) more
  pub kept : IsWellKept later.limits (present later)

module _ {E : Type 0} (admin : Option Record → Option (Schedule E)) (k : Key) (b later : Ledger) (on : GoesOn k b later) where
  object_on : object admin k (get later.opening k) later.entries ≡ fold (λ (o : Object E) (e : Entry). after_entry admin k o e.what)
      (object admin k (get b.opening k) b.entries) on.more
  object_on =
      ap (λ c. object admin k (get c k) later.entries) on.opening ∙ ap (object admin k (get b.opening k)) on.entries
      ∙ fold-append (λ (o : Object E) (e : Entry). after_entry admin k o e.what) (record { value = get b.opening k; acts = [] }) b.entries
      on.more

  acts_on : is_enabled (object admin k (get b.opening k) b.entries).acts ≡ true
      → (object admin k (get later.opening k) later.entries).acts ≡ (object admin k (get b.opening k) b.entries).acts
  acts_on enabled =
      ap (λ (o : Object E). o.acts) object_on ∙ quiet_run admin k on.more (object admin k (get b.opening k) b.entries) enabled on.quiet

  there_on : IsSome (get (present b) k) → IsSome (get (present later) k)
  there_on some =
      subst (λ v. IsSome v) (ap (λ (o : Object E). o.value) (sym object_on) ∙ value_is admin k later)
      (there_run admin k on.more (object admin k (get b.opening k) b.entries) on.quiet
      (subst (λ v. IsSome v) (sym (value_is admin k b)) some))

-- ---- what is done and told

applied_state : (s applied : State) (n : ℕ) (k : Key) (now at entry : ℕ) (change : Option ℕ)
    → Allows (apply_rule s n k now) s (replies.Acted change entry at) applied → applied ≡ acted_state s n asked.Apply k now
applied_state s applied n k now at entry change step =
    let is = accepted (apply_rule s n k now) s (replies.Acted change entry at) applied (λ why h. (cc)) step in
    sym (ap (λ (p : Reply × State). p.1) (done_of _ _ is.1))

-- a look that nothing refuses is told what there is
abbrev Tells : State → Reply → Option Shown → Type 0
Tells s reply o =
    (◌≡◌ {A = Option (Reply × State)} (option_map {T = Reply} {U = Reply × State} (λ x. (x, s)) (option_map (λ x. replies.States x) o))
    (Some (reply, s)))
    ⊎ (IsTrue false × (reply ≡ replies.Refused Memory) × (s ≡ s))

told_at : (s : State) (x : Shown) (reply : Reply) → Tells s reply (Some x) → reply ≡ replies.States x
told_at s x reply (inl done) = sym (ap (λ (p : Reply × State). p.0) (done_of _ _ done))
told_at s x reply (inr memory) = let never = memory.0 in (cc)

told : (s : State) (n : ℕ) (k : Key) (t : ℕ) (x : Shown) (reply : Reply) → first_cause (list_causes s n k []) ≡ None → last_at s.book k ≤ t
    → shown_at s.book k (get (present s.book) k) t ≡ Some x → Allows (states_rule s n k t) s reply s → reply ≡ replies.States x
told s n k t x reply none after is step =
    told_at s x reply (subst (Tells s reply) is
    (subst (λ o. AllowsAt o (states_rule s n k t) s reply s) (states_free s n k t none after) step))

-- an act leaves the configuration
stays_there : (s : State) (n : ℕ) (k : Key) (now : ℕ) (q : Key)
    → get (present (acted_state s n asked.Apply k now).book) q ≡ get (present s.book) q
stays_there s n k now q =
    ap (λ es. get (run s.book.opening es) q) (nothing_push s.book.entries n (Acted asked.Apply k (instant s now)) refl)

-- ---- a list, of a port or of a stream gate

-- what is known of the list of a key of a kind, with this record: the schedule in it, the interval of an entry, and what an entry shows
pub record IsListOf {E : Type 0} (admin : Option Record → Option (Schedule E)) (interval : E → ℕ) (shows : E → Shown) (k : Key) (r : Record)
    (a : Schedule E) : Type 0 where
  pub listed : has_list k ≡ true
  pub scheduled : admin (Some r) ≡ Some a
  pub cycle : 0 < a.cycle
  pub enabled : (b : Ledger) → enabled_at b k ≡ is_enabled (object admin k (get b.opening k) b.entries).acts
  pub last : (b : Ledger) → last_at b k ≡ last_instant (object admin k (get b.opening k) b.entries).acts
  pub shown : (b : Ledger) (t : ℕ) (v : Option Record) (e : E) → IsSome v → ((q : Record) → v ≡ Some q → HoldsRecord b.limits k q)
      → state_in interval (object admin k (get b.opening k) b.entries).acts t ≡ Some e → shown_at b k v t ≡ Some (shows e)

module _ {E : Type 0} (admin : Option Record → Option (Schedule E)) (interval : E → ℕ) (shows : E → Shown) (k : Key) (r : Record)
    (a : Schedule E) (list : IsListOf admin interval shows k r a) where
  abbrev list_at : Ledger → Object E
  list_at b = object admin k (get b.opening k) b.entries

  -- after an apply its acts begin with it
  applied_acts : (s : State) (n now : ℕ) → get (present s.book) k ≡ Some r
      → (list_at (acted_state s n asked.Apply k now).book).acts ≡ Apply a (instant s now) ∷ (list_at s.book).acts
  applied_acts s n now is =
      ap (λ (o : Object E). o.acts) (object_push admin k (get s.book.opening k) s.book.entries _)
      ∙ ap (λ b. (cond b (record {
        value = (list_at s.book).value;
        acts = with_asked asked.Apply (admin (list_at s.book).value) (instant s now) (list_at s.book).acts;
      })
      (list_at s.book)).acts) (same_itself k)
      ∙ ap (λ o. with_asked asked.Apply o (instant s now) (list_at s.book).acts) (ap admin (value_is admin k s.book ∙ is) ∙ list.scheduled)

  module _ (s applied later : State) (n now at entry : ℕ) (change : Option ℕ) (is : get (present s.book) k ≡ Some r)
      (apply : Allows (apply_rule s n k now) s (replies.Acted change entry at) applied) (on : GoesOn k applied.book later.book)
    where
      finds : FindsList s n k
      finds = applied_finds s n k now (accepted (apply_rule s n k now) s (replies.Acted change entry at) applied (λ why h. (cc)) apply).0

      -- its acts later are those of the apply
      acts_later : (list_at later.book).acts ≡ Apply a (instant s now) ∷ (list_at s.book).acts
      acts_later =
          let first : (list_at applied.book).acts ≡ Apply a (instant s now)
          ∷ (list_at s.book).acts = ap (λ (z : State). (list_at z.book).acts)
          (applied_state s applied n k now at entry change apply) ∙ applied_acts s n now is in
          acts_on admin k applied.book later.book on
          (ap (λ (acts : List (Act E)). is_enabled acts) first ∙ sym (list.enabled s.book) ∙ finds.enabled) ∙ first

      there : IsSome (get (present later.book) k)
      there =
          there_on admin k applied.book later.book on
          (subst (λ (z : State). IsSome (get (present z.book) k)) (sym (applied_state s applied n k now at entry change apply))
          (subst (λ v. IsSome v) (sym (stays_there s n k now k ∙ is)) refl))

      pub shown_later : (asker t : ℕ) (reply : Reply) (e : E) → a.base ≤ instant s now
          → change_of a.base a.cycle (instant s now) ≤ t → is_given later asker ≡ true
          → Allows (states_rule later asker k t) later reply later
          → entry_at interval a.list ((t - a.base) % a.cycle) ≡ Some e → reply ≡ replies.States (shows e)
      shown_later asker t reply e past after given step found =
          let by : state_in interval (list_at later.book).acts t ≡ Some e =
          ap (λ xs. state_in interval xs t) acts_later
          ∙ restored interval a (list_at s.book).acts (instant s now) t list.cycle past after ∙ found in
          let within = ap (λ l. holds_key l k)
          (on.limits ∙ ap (λ (z : State). z.book.limits) (applied_state s applied n k now at entry change apply))
          ∙ within_list s n k finds.none in
          let last : last_at later.book k ≡ instant s now =
          list.last later.book ∙ ap (λ (acts : List (Act E)). last_instant acts) acts_later in
          told later asker k t (shows e) reply (none_of_list later asker k list.listed within given there)
          (omega (arith, last, after, (change_is_least a.base a.cycle (instant s now) list.cycle).reached))
          (list.shown later.book t (get (present later.book) k) e there (λ q h. (on.kept.within k q h).1) by) step

-- ---- a port's list, and a gate's

-- what it shows, from its acts: its record is one of a port
shown_port : (b : Ledger) (m t : ℕ) (v : Option Record) (e : PortEntry) → IsSome v
    → ((r : Record) → v ≡ Some r → HoldsRecord b.limits (Port m) r) → state_in (λ e. e.interval) (port_at b m).acts t ≡ Some e
    → shown_at b (Port m) v t ≡ Some (states.Port e.gates)
shown_port b m t (Some (records.Port q)) e some kind by = ap (λ o. Some (port_state q o)) by
shown_port b m t None e some kind by = (cc)
shown_port b m t (Some q) e some kind by = absurd (kind q refl)

-- one of a gate
shown_gate : (b : Ledger) (m t : ℕ) (v : Option Record) (e : GateEntry) → IsSome v
    → ((r : Record) → v ≡ Some r → HoldsRecord b.limits (Gate m) r) → state_in (λ e. e.interval) (gate_at b m).acts t ≡ Some e
    → shown_at b (Gate m) v t ≡ Some (states.Gate e.is_open e.ipv)
shown_gate b m t (Some (records.Gate q)) e some kind by = ap (λ o. Some (gate_state q o)) by
shown_gate b m t None e some kind by = (cc)
shown_gate b m t (Some q) e some kind by = absurd (kind q refl)

pub port_list : (m : ℕ) (p : PortGates) → 0 < p.admin.cycle
    → IsListOf port_schedule (λ (e : PortEntry). e.interval) (λ (e : PortEntry). states.Port e.gates) (Port m) (records.Port p) p.admin
port_list m p cycle =
    record { listed = refl; scheduled = refl; cycle = cycle; enabled = λ b. refl; last = λ b. refl; shown = λ b. shown_port b m }

pub gate_list : (m : ℕ) (p : StreamGate) → 0 < p.admin.cycle
    → IsListOf gate_schedule (λ (e : GateEntry). e.interval) (λ (e : GateEntry). states.Gate e.is_open e.ipv) (Gate m) (records.Gate p)
    p.admin
gate_list m p cycle =
    record { listed = refl; scheduled = refl; cycle = cycle; enabled = λ b. refl; last = λ b. refl; shown = λ b. shown_gate b m }
