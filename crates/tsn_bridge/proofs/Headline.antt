-- The parts of the headline hold of every state with a sound journal.
use Rattle.std.proofs.Common.{◌≡◌, ◌≤◌, ◌-◌, ◌%◌, ℕ, true, false, cond, [], ◌∷◌, List, refl, sym, ◌∙◌, ap, subst, Option, Some, None}
use Rattle.std.specs.Prelude.{◌⊎◌, ◌==◌, nat_lt}
use Rattle.std.specs.FinMap.{get}
use Rattle.tsn_types.specs.declared.keys.Key.{Key}
use Rattle.tsn_types.specs.declared.keys.Key.TheVariants.{Gate, Port}
use Rattle.tsn_types.specs.declared.records.PortGates.{PortGates}
use Rattle.tsn_types.specs.declared.records.Record.{Record}
use Rattle.tsn_types.specs.declared.records.Record.TheVariants as records
use Rattle.tsn_types.specs.declared.records.Schedule.{Schedule}
use Rattle.tsn_types.specs.declared.records.StreamGate.{StreamGate}
use Rattle.tsn_types.specs.declared.refusals.Refusal.{Refusal}
use Rattle.tsn_types.specs.declared.refusals.Refusal.TheVariants.{JournalFull, Memory}
use Rattle.tsn_edit.specs.declared.Edit.{Edit}
use Rattle.tsn_edit.specs.Batches.{EditsInRange, IsBatch}
use Rattle.tsn_edit.specs.Changes.{restored}
use Rattle.tsn_edit.specs.Configuration.{Configuration}
use Rattle.tsn_edit.proofs.Inverses.{get-inverse}
use Rattle.tsn_edit.proofs.KeyFacts.{before_or, part_on}
use Rattle.tsn_schedule.specs.Entries.{entry_at}
use Rattle.tsn_schedule.specs.Refusing.{has_entries}
use Rattle.tsn_schedule.specs.Times.{change_of}
use Rattle.tsn_edit.specs.Runs.{run}
use Rattle.tsn_entries.specs.Entries.{Applied, changes, no_room, standing, undone as taken_back}
use Rattle.tsn_entries.specs.Finding.{standing_entry}
use Rattle.tsn_journal.proofs.Standing.{standing_found}
use Rattle.tsn_undo.specs.Ledger.{Ledger, base_of, enter, present}
use Rattle.tsn_undo.specs.Commuting.{value_before}
use Rattle.tsn_undo.proofs.Adding.{base_kept, kept_base}
use Rattle.tsn_undo.proofs.Commutation.{commutation}
use Rattle.tsn_undo.proofs.UndoAll.{free_of_all, own, own_closed}
use Rattle.tsn_undo.proofs.Making.{kept_now, makes_undo}
use Rattle.tsn_chain.specs.declared.state.State.{State as Shown}
use Rattle.tsn_commands.specs.declared.command.Command.{Command}
use Rattle.tsn_commands.specs.declared.command.Command.TheVariants as commands
use Rattle.tsn_commands.specs.declared.reply.Reply.{Reply}
use Rattle.tsn_commands.specs.declared.reply.Reply.TheVariants.{Acted, Entry, EntryOf, Refused, States, TakenBack}
use Rattle.tsn_bridge.specs.Acts.{apply_change, apply_rule, has_entry, instant}
use Rattle.tsn_bridge.specs.Edits.{edit_rule, next, undo_rule}
use Rattle.tsn_bridge.specs.Headline.{AtOnceUndone, EditsLast, GateRestored, GateRuns, ListRuns, OthersAlone, OthersLeft, PortRestored, PortRuns, PutsAllBack, PutsBack, RestoredList}
use Rattle.tsn_bridge.specs.Families.{Editing, Family, family}
use Rattle.tsn_bridge.specs.Histories.{StateIsSound, edits_of, batch_of}
use Rattle.tsn_commands.specs.Commands.{CommandInRange}
use Rattle.tsn_bridge.specs.Machine.{Step}
use Rattle.tsn_bridge.specs.Quiet.{SinceQuiet}
use Rattle.tsn_bridge.specs.Rule.{Allows, is_given}
use Rattle.tsn_bridge.specs.State.{State}
use Rattle.tsn_bridge.proofs.AtOnce.{done_of, free, full, taken, taken_map, undone as undone_at_once, with_room}
use Rattle.tsn_bridge.proofs.Families.{FamilyInRange, in_range}
use Rattle.tsn_bridge.proofs.Interleaving.{all_taken_back, follow, follows, made_by, same_edits}
use Rattle.tsn_bridge.proofs.KeySteps.{applied_finds}
use Rattle.tsn_bridge.proofs.Restored.{GoesOn, IsListOf, gate_list, port_list, shown_later}
use Rattle.tsn_bridge.proofs.Stepping.{accepted}
use Rattle.tsn_bridge.proofs.WhyNotAll.{not_all, surely_blocked}

-- ---- an edit at once undone

-- the edits of a command in its ranges are a batch in its ranges
batch_in_range : (f : Family) (batch : List Edit) → batch_of f ≡ Some batch → FamilyInRange f → IsBatch batch × EditsInRange batch
batch_in_range (Editing edits) batch is h = subst (λ b. IsBatch b × EditsInRange b) (same_edits is) h
batch_in_range f batch is h = (cc)

edits_in_range : (command : Command) (batch : List Edit) → edits_of command ≡ Some batch → CommandInRange command
    → IsBatch batch × EditsInRange batch
edits_in_range command batch is h = batch_in_range (family command) batch is (in_range command h)

module _ (before between : State) (session : ℕ) (command : Command) (entry : ℕ) (sound : StateIsSound before)
    (last : EditsLast before between session command entry) where
  sound_edited : StateIsSound last.edited
  sound_edited = (follows before session command (Entry entry) last.edited sound last.ranges last.step).sound

  -- nothing came into the book since
  same_book : between.book ≡ last.edited.book
  same_book =
      let on = (follow last.asks last.edited between sound_edited last.in_range last.leads).later in
      λ i. record { limits = on.limits i; opening = on.opening i; entries = last.none_since i }

  made : Allows (edit_rule before session last.batch) before (Entry entry) last.edited
  made = made_by before last.edited session command last.batch entry last.asks_for last.step

  fine : IsBatch last.batch × EditsInRange last.batch
  fine = edits_in_range command last.batch last.asks_for last.ranges

  sessions_on : last.edited.sessions ≤ between.sessions
  sessions_on = (follow last.asks last.edited between sound_edited last.in_range last.leads).later.sessions

  -- what is said of the batch of the edit and the undo after it
  module _ (after : State) where
    undone_edit : (number of : ℕ) → Allows (undo_rule between session) between (EntryOf number of) after
        → (of ≡ entry) × (present after.book ≡ present before.book)
    undone_edit number of back =
        undone_at_once before last.edited between session last.batch entry fine.0 fine.1 sound made same_book after number of back

    free_edit : (why : Refusal) → Allows (undo_rule between session) between (Refused why) after → (why ≡ JournalFull) ⊎ (why ≡ Memory)
    free_edit why back =
        free before last.edited between session last.batch entry fine.0 fine.1 sound made same_book sessions_on after why back

    full_edit : (reply : Reply) → Allows (undo_rule between session) between reply after → no_room between.book.entries 1 ≡ Some JournalFull
        → (reply ≡ Refused JournalFull) × (after ≡ between)
    full_edit reply back none =
        full before last.edited between session last.batch entry fine.0 fine.1 sound made same_book sessions_on after reply back none

    room_edit : (reply : Reply) → Allows (undo_rule between session) between reply after → no_room between.book.entries 1 ≡ None
        → (reply ≡ EntryOf (next between) entry) ⊎ ((reply ≡ Refused Memory) × (after ≡ between))
    room_edit reply back room =
        with_room before last.edited between session last.batch entry fine.0 fine.1 sound made same_book sessions_on after reply back room

pub at_once_undone : (s : State) → StateIsSound s → AtOnceUndone s
at_once_undone s sound = record {
  accepted = λ between after session command entry number of last back. undone_edit s between session command entry sound last after number
      of back;
  refused = λ between after session command entry why last back. free_edit s between session command entry sound last after why back;
  full = λ between after session command entry reply last back none. full_edit s between session command entry sound last after reply back
      none;
  with_room = λ between after session command entry reply last back room. room_edit s between session command entry sound last after reply
      back room;
}

-- ---- an undo of all

pub others_alone_left : (s : State) → StateIsSound s → OthersAlone s
others_alone_left s sound = record {
  accepted =
      λ after session count entry back. let is = all_taken_back s session count entry after sound back in (is.map, is.good, is.stands);
  refused = λ after session why back. not_all s session why after sound back;
  blocked = λ after session x y reply pair known back. surely_blocked s session x y reply after sound pair known back;
}

-- ---- an undo of one entry

pub others_left : (s : State) → StateIsSound s → OthersLeft s
others_left s sound after session number of back =
    let is = taken s after session number of back in
    let x = is.free.newest in
    let book : after.book ≡ enter s.book session (taken_back x) = ap (λ (t : State). t.book) is.state in
    record {
      newest = x;
      newest_is = is.free.newest_is;
      of_is = is.free.of_is;
      number_is = is.number_is;
      limits = ap (λ (b : Ledger). b.limits) book;
      opening = ap (λ (b : Ledger). b.opening) book;
      base = ap base_of book ∙ base_kept s.book.opening s.book.entries session (taken_back x) tt;
      leaves = (makes_undo s.book session of sound is.free number after.book is.number_is book).leaves;
    }

-- ---- a restored list

-- a list with an entry has one at each offset
entry_there : {E : Type 0} (interval : E → ℕ) (list : List E) (offset : ℕ) → has_entries list ≡ true
    → (e : E) × (entry_at interval list offset ≡ Some e)
entry_there interval [] offset some = (cc)
entry_there interval (x ∷ []) offset some = (x, refl)
entry_there {E = E} interval (x ∷ y ∷ list) offset some =
    elim (nat_lt offset (interval x)) as (λ b. (e : E) × (cond b (Some x) (entry_at interval (y ∷ list) (offset - interval x)) ≡ Some e)) [
      | true ↦ (x, refl)
      | false ↦ entry_there interval (y ∷ list) (offset - interval x) refl
    ]

-- what an apply that was answered says
record IsApplied (s : State) (n : ℕ) (k : Key) (now at : ℕ) (change : Option ℕ) : Type 0 where
  told : change ≡ apply_change (get (present s.book) k) (instant s now)
  counted : instant s now ≡ at
  some : has_entry (get (present s.book) k) ≡ true

applied_is : (s applied : State) (n : ℕ) (k : Key) (now entry at : ℕ) (change : Option ℕ)
    → Allows (apply_rule s n k now) s (Acted change entry at) applied → IsApplied s n k now at change
applied_is s applied n k now entry at change step =
    let is = accepted (apply_rule s n k now) s (Acted change entry at) applied (λ why h. (cc)) step in
    let reply : Acted _ _ _ ≡ Acted change entry at = ap (λ (p : Reply × State). p.0) (done_of _ _ is.1) in
    record { told = (cc); counted = (cc); some = (applied_finds s n k now is.0).some }

-- the later state keeps what the apply left
goes_on : (s applied later : State) (n : ℕ) (k : Key) (now : ℕ) (reply : Reply) → StateIsSound s
    → Step s n (commands.Apply k now) reply applied → SinceQuiet k applied later → GoesOn k applied.book later.book
goes_on s applied later n k now reply sound step quiet =
    let first = follows s n (commands.Apply k now) reply applied sound tt step in
    let on = follow quiet.asks applied later first.sound quiet.in_range quiet.leads in
    record {
      limits = on.later.limits;
      opening = on.later.opening;
      more = quiet.more;
      entries = quiet.entries;
      quiet = quiet.quiet;
      kept = kept_now later.book on.sound;
    }

-- a record's list, once applied with its base past, tells the change time and then its own states
module _ {E : Type 0} (admin : Option Record → Option (Schedule E)) (interval : E → ℕ) (shows : E → Shown) (k : Key) (r : Record)
    (a : Schedule E) (list : IsListOf admin interval shows k r a) (s : State) (sound : StateIsSound s)
    (is : get (present s.book) k ≡ Some r) (tells : (x : ℕ) → apply_change (Some r) x ≡ Some (change_of a.base a.cycle x))
    (some : has_entry (Some r) ≡ has_entries a.list) where
  list_runs : ListRuns interval shows s k a
  list_runs applied session now entry at change step past =
      let done = applied_is s applied session k now entry at change step in
      let at_is = done.counted in (
        done.told ∙ ap (λ v. apply_change v (instant s now)) is ∙ tells (instant s now)
            ∙ ap (λ x. Some (change_of a.base a.cycle x)) at_is,
        λ later asker t reply quiet after given asked.
            let e = entry_there interval a.list ((t - a.base) % a.cycle) (sym some ∙ ap has_entry (sym is) ∙ done.some) in (
              e.0,
              e.1,
              shown_later admin interval shows k r a list s applied later session now at entry change is step
                  (goes_on s applied later session k now (Acted change entry at) sound step quiet)
                  asker t reply e.0 (subst (λ x. a.base ≤ x) (sym at_is) past)
                  (subst (λ x. change_of a.base a.cycle x ≤ t) (sym at_is) after) given asked e.1,
            ),
      )

pub port_runs : (s : State) (m : ℕ) (p : PortGates) → StateIsSound s → get (present s.book) (Port m) ≡ Some (records.Port p)
    → PortRuns s m p
port_runs s m p sound is =
    list_runs _ _ _ _ _ _ (port_list m p ((kept_now s.book sound).in_range (Port m) (records.Port p) is).admin.cycle.0) s sound is
    (λ x. refl) refl

pub gate_runs : (s : State) (m : ℕ) (g : StreamGate) → StateIsSound s → get (present s.book) (Gate m) ≡ Some (records.Gate g)
    → GateRuns s m g
gate_runs s m g sound is =
    list_runs _ _ _ _ _ _ (gate_list m g ((kept_now s.book sound).in_range (Gate m) (records.Gate g) is).admin.cycle.0) s sound is
    (λ x. refl) refl

-- the record that an undo put back stands
put_back : (s undone : State) (k : Key) (r : Record) → StateIsSound s → PutsBack s undone k r → get (present undone.book) k ≡ Some r
unfolding part_on
put_back s undone k r sound back =
    let taken = taken_map s undone back.session back.number back.of back.step in
    let x = taken.0 in
    let found = standing_found s.book.entries (λ (y : Applied). y.session == back.session) x sound.numbered taken.1 in
    let same : x ≡ back.entry = done_of x back.entry (sym found ∙ ap (standing_entry s.book.entries) (sym taken.2) ∙ back.entry_is) in
    let map : present undone.book ≡ restored (present s.book) back.entry.change = taken.3
    ∙ ap (λ (y : Applied). restored (present s.book) y.change) same in
    ap (λ (c : Configuration). get c k) map
    ∙ get-inverse (present s.book) back.entry.change k
    ∙ ap (λ o. before_or o (get (present s.book) k)) back.part_is
    ∙ back.stood

-- and so does the record that an undo of all put back
all_put_back : (s undone : State) (k : Key) (r : Record) → StateIsSound s → PutsAllBack s undone k r → get (present undone.book) k ≡ Some r
all_put_back s undone k r sound back =
    let taken = all_taken_back s back.session back.count back.entry undone sound back.step in
    let closed = own_closed s.book.entries back.session sound.numbered (free_of_all s.book back.session taken.free).none in
    let commutes = commutation s.book.limits (base_of s.book) (standing s.book.entries) (own back.session)
    (kept_base s.book.limits s.book.opening s.book.entries sound) sound.good closed in
    ap (λ (c : Configuration). get c k) taken.map
    ∙ commutes.ends k
    ∙ ap (λ o. value_before o (get (run (base_of s.book) (changes (standing s.book.entries))) k)) back.part_is
    ∙ back.stood

-- where a sound state has the record, its list runs so
module _ (undone : State) (sound : StateIsSound undone) where
  port_restored : (m : ℕ) (p : PortGates) → get (present undone.book) (Port m) ≡ Some (records.Port p) → PortRestored undone m p
  port_restored m p stands =
      (stands, λ asks ready ranges leads is. port_runs ready m p (follow asks undone ready sound ranges leads).sound is)

  gate_restored : (m : ℕ) (g : StreamGate) → get (present undone.book) (Gate m) ≡ Some (records.Gate g) → GateRestored undone m g
  gate_restored m g stands =
      (stands, λ asks ready ranges leads is. gate_runs ready m g (follow asks undone ready sound ranges leads).sound is)

sound_undone : (s undone : State) (k : Key) (r : Record) → StateIsSound s → PutsBack s undone k r → StateIsSound undone
sound_undone s undone k r sound back = (follows s back.session commands.Undo (EntryOf back.number back.of) undone sound tt back.step).sound

sound_all_undone : (s undone : State) (k : Key) (r : Record) → StateIsSound s → PutsAllBack s undone k r → StateIsSound undone
sound_all_undone s undone k r sound back =
    (follows s back.session commands.UndoAll (TakenBack back.count back.entry) undone sound tt back.step).sound

pub restored_list : (s : State) → StateIsSound s → RestoredList s
restored_list s sound = record {
  port = λ undone m p back. port_restored undone (sound_undone s undone (Port m) (records.Port p) sound back) m p
      (put_back s undone (Port m) (records.Port p) sound back);
  gate = λ undone m g back. gate_restored undone (sound_undone s undone (Gate m) (records.Gate g) sound back) m g
      (put_back s undone (Gate m) (records.Gate g) sound back);
  port_of_all = λ undone m p back. port_restored undone (sound_all_undone s undone (Port m) (records.Port p) sound back) m p
      (all_put_back s undone (Port m) (records.Port p) sound back);
  gate_of_all = λ undone m g back. gate_restored undone (sound_all_undone s undone (Gate m) (records.Gate g) sound back) m g
      (all_put_back s undone (Gate m) (records.Gate g) sound back);
}
