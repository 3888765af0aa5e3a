-- The parts of the headline, each said of a state to which commands have led.
use Rattle.std.specs.Prelude.{◌≡◌, ◌⊎◌, ◌≤◌, ◌+◌, ◌-◌, ◌%◌, ℕ, true, false, ⊤, List, [], Option, Some, None, length}
use Rattle.std.specs.FinMap.{get}
use Rattle.tsn_types.specs.declared.keys.Key.{Key}
use Rattle.tsn_types.specs.declared.keys.Key.TheVariants.{Gate, Port}
use Rattle.tsn_types.specs.declared.records.GateEntry.{GateEntry}
use Rattle.tsn_types.specs.declared.records.PortEntry.{PortEntry}
use Rattle.tsn_types.specs.declared.records.PortGates.{PortGates}
use Rattle.tsn_types.specs.declared.records.Record.{Record}
use Rattle.tsn_types.specs.declared.records.Record.TheVariants as records
use Rattle.tsn_types.specs.declared.records.Schedule.{Schedule}
use Rattle.tsn_types.specs.declared.records.StreamGate.{StreamGate}
use Rattle.tsn_types.specs.declared.refusals.Refusal.{Refusal}
use Rattle.tsn_types.specs.declared.refusals.Refusal.TheVariants.{Conflict, JournalFull, Memory, NoSession, NothingToUndo}
use Rattle.tsn_edit.specs.declared.Edit.{Edit}
use Rattle.tsn_edit.specs.Changes.{part_of}
use Rattle.tsn_edit.specs.Parts.{Part, parts}
use Rattle.tsn_edit.specs.Runs.{IsGood}
use Rattle.tsn_schedule.specs.Entries.{entry_at}
use Rattle.tsn_schedule.specs.Times.{change_of}
use Rattle.tsn_entries.specs.declared.entries.Entry.{Entry as AnyEntry}
use Rattle.tsn_entries.specs.Entries.{Applied, changes, no_room, standing}
use Rattle.tsn_entries.specs.Finding.{last_of, others_standing, own_standing, standing_entry}
use Rattle.tsn_chain.specs.declared.state.State.{State as Shown}
use Rattle.tsn_chain.specs.declared.state.State.TheVariants as states
use Rattle.tsn_undo.specs.Commuting.{first_on}
use Rattle.tsn_undo.specs.Ledger.{base_of, present}
use Rattle.tsn_undo.specs.Steps.{LeavesStanding, standing_without}
use Rattle.tsn_undo.specs.UndoAll.{BlocksAll, others_alone}
use Rattle.tsn_commands.specs.declared.command.Command.{Command}
use Rattle.tsn_commands.specs.declared.command.Command.TheVariants as commands
use Rattle.tsn_commands.specs.declared.reply.Reply.{Reply}
use Rattle.tsn_commands.specs.declared.reply.Reply.TheVariants.{Acted, Entry, EntryOf, Refused, States, TakenBack}
use Rattle.tsn_bridge.specs.Histories.{AreInRange, Leads, Answered, edits_of}
use Rattle.tsn_commands.specs.Commands.{CommandInRange}
use Rattle.tsn_bridge.specs.Machine.{Step}
use Rattle.tsn_bridge.specs.Quiet.{SinceQuiet}
use Rattle.tsn_bridge.specs.Rule.{is_given}
use Rattle.tsn_bridge.specs.State.{State}

-- ---- an accepted edit at once undone leaves the configuration as it was

-- an edit of a session, or a batch of edits, that was answered with an entry, and asks of any sessions after it that made none
pub record EditsLast (before between : State) (session : ℕ) (command : Command) (entry : ℕ) : Type 0 where
  pub batch : List Edit
  pub asks_for : edits_of command ≡ Some batch
  pub edited : State
  pub asks : List Answered
  pub ranges : CommandInRange command
  pub step : Step before session command (Entry entry) edited
  pub in_range : AreInRange asks
  pub leads : Leads edited asks between
  pub none_since : between.book.entries ≡ edited.book.entries

-- An undo by the session of that edit, answered with an entry, took the edit back, each of a batch, and the configuration is
-- the one before it: the whole map, every member of every record. Only a full journal or want of memory refuses that undo. It is
-- always refused where the journal is full, for this and for nothing else, and changes nothing; where there is room for an entry,
-- it is answered with the next entry, or refused for want of memory, and then changes nothing.
pub record AtOnceUndone (before : State) : Type 0 where
  pub accepted : (between after : State) (session : ℕ) (command : Command) (entry number of : ℕ)
      → EditsLast before between session command entry
      → Step between session commands.Undo (EntryOf number of) after → (of ≡ entry) × (present after.book ≡ present before.book)
  pub refused : (between after : State) (session : ℕ) (command : Command) (entry : ℕ) (why : Refusal)
      → EditsLast before between session command entry
      → Step between session commands.Undo (Refused why) after → (why ≡ JournalFull) ⊎ (why ≡ Memory)
  pub full : (between after : State) (session : ℕ) (command : Command) (entry : ℕ) (reply : Reply)
      → EditsLast before between session command entry
      → Step between session commands.Undo reply after → no_room between.book.entries 1 ≡ Some JournalFull
      → (reply ≡ Refused JournalFull) × (after ≡ between)
  pub with_room : (between after : State) (session : ℕ) (command : Command) (entry : ℕ) (reply : Reply)
      → EditsLast before between session command entry
      → Step between session commands.Undo reply after → no_room between.book.entries 1 ≡ None
      → (reply ≡ EntryOf (length between.book.entries + 1) entry) ⊎ ((reply ≡ Refused Memory) × (after ≡ between))

-- ---- an undo of all leaves what the others' standing entries alone give, or names what stands in the way

-- Of all pairs of an own standing entry and a later one of another session in conflict with it, this is the one of the newest own
-- entry, and of the pairs of that entry the one of the latest other.
pub record BlocksNewest (es : List AnyEntry) (s own other : ℕ) : Type 0 where
  pub blocks : BlocksAll es s own other
  pub newest : (x y : ℕ) → BlocksAll es s x y → x ≤ own
  pub latest : (y : ℕ) → BlocksAll es s own y → y ≤ other

-- Why an undo of all is refused: nothing of the session stands, and the configuration is what the others' entries give
-- already; a standing entry of the session has a later one of another session in conflict, and named are the newest such own
-- entry and the latest such other one; the journal has too little room for all the entries; memory was wanting; or the session
-- was not given out.
abbrev pub WhyNotAll : State → ℕ → Refusal → Type 0
WhyNotAll s n NothingToUndo = (own_standing s.book.entries n ≡ []) × (present s.book ≡ others_alone s.book n)
WhyNotAll s n (Conflict own other) = BlocksNewest s.book.entries n own other
WhyNotAll s n JournalFull = no_room s.book.entries (length (own_standing s.book.entries n)) ≡ Some JournalFull
WhyNotAll s n Memory = ⊤
WhyNotAll s n NoSession = is_given s n ≡ false
WhyNotAll s n why = ⊥

-- One that was answered with a count leaves just the others' entries standing, each of which fits in its place, and their
-- run alone is the configuration. One that was refused changed nothing. Where a pair of entries is in the way, an undo of all of a
-- session that was given out is always refused for a conflict, and not for a full journal or want of memory.
pub record OthersAlone (before : State) : Type 0 where
  pub accepted : (after : State) (session count entry : ℕ) → Step before session commands.UndoAll (TakenBack count entry) after
      → (present after.book ≡ others_alone before.book session)
      × IsGood before.book.limits (base_of before.book) (changes (others_standing before.book.entries session))
      × (standing after.book.entries ≡ others_standing before.book.entries session)
  pub refused : (after : State) (session : ℕ) (why : Refusal) → Step before session commands.UndoAll (Refused why) after
      → (after ≡ before) × WhyNotAll before session why
  pub blocked : (after : State) (session x y : ℕ) (reply : Reply) → BlocksAll before.book.entries session x y
      → is_given before session ≡ true
      → Step before session commands.UndoAll reply after → (own : ℕ) × (other : ℕ) × (reply ≡ Refused (Conflict own other))

-- ---- an undo of one entry leaves what the other standing entries give

-- the entry of the number `of` was the session's newest standing one, and the next entry took it back. All other standing entries, of
-- every session, stand still: their run from the base is good, and is the configuration. The limits, the opening and the base are
-- those before.
pub record UndoesNewest (before after : State) (session number of : ℕ) : Type 0 where
  pub newest : Applied
  pub newest_is : last_of before.book.entries session ≡ Some newest
  pub of_is : of ≡ newest.number
  pub number_is : number ≡ length before.book.entries + 1
  pub limits : after.book.limits ≡ before.book.limits
  pub opening : after.book.opening ≡ before.book.opening
  pub base : base_of after.book ≡ base_of before.book
  pub leaves : LeavesStanding after.book (standing_without before.book.entries of)

-- an undo that was answered with an entry is such an undo
abbrev pub OthersLeft : State → Type 0
OthersLeft before =
    (after : State) (session number of : ℕ) → Step before session commands.Undo (EntryOf number of) after
    → UndoesNewest before after session number of

-- ---- a list that an undo restored, once applied with its base past, gives its states at every later instant

-- The list of a port's or a stream gate's record, once it is applied with its base not after the instant that counted, runs as if it
-- had run since its base. The apply tells the change time; and at each instant from then on, until the next act on the key's list,
-- the states are told, to any session that was given out, and are those of the entry at the time since the base, counted round the
-- cycle.
abbrev pub ListRuns : {E : Type 0} → (E → ℕ) → (E → Shown) → State → Key → Schedule E → Type 0
ListRuns {E} interval shows ready key admin =
    (applied : State) (session now entry at : ℕ) (told : Option ℕ)
    → Step ready session (commands.Apply key now) (Acted told entry at) applied → admin.base ≤ at
    → (told ≡ Some (change_of admin.base admin.cycle at))
    × ((later : State) (asker t : ℕ) (reply : Reply)
    → SinceQuiet key applied later → change_of admin.base admin.cycle at ≤ t → is_given later asker ≡ true
    → Step later asker (commands.States key t) reply later
    → (e : E) × (entry_at interval admin.list ((t - admin.base) % admin.cycle) ≡ Some e) × (reply ≡ States (shows e)))

abbrev pub PortRuns : State → ℕ → PortGates → Type 0
PortRuns ready port p = ListRuns (λ (e : PortEntry). e.interval) (λ (e : PortEntry). states.Port e.gates) ready (Port port) p.admin

abbrev pub GateRuns : State → ℕ → StreamGate → Type 0
GateRuns ready gate g = ListRuns (λ (e : GateEntry). e.interval) (λ (e : GateEntry). states.Gate e.is_open e.ipv) ready (Gate gate) g.admin

-- an undo that was answered with an entry, and took back one before which the key had this record
pub record PutsBack (before undone : State) (k : Key) (r : Record) : Type 0 where
  pub session : ℕ
  pub number : ℕ
  pub of : ℕ
  pub step : Step before session commands.Undo (EntryOf number of) undone
  pub entry : Applied
  pub entry_is : standing_entry before.book.entries of ≡ Some entry
  pub part : Part
  pub part_is : part_of k (parts entry.change) ≡ Some part
  pub stood : part.before ≡ Some r

-- an undo of all that was answered with a count, and took back entries before the earliest of which on this key the key had this
-- record
pub record PutsAllBack (before undone : State) (k : Key) (r : Record) : Type 0 where
  pub session : ℕ
  pub count : ℕ
  pub entry : ℕ
  pub step : Step before session commands.UndoAll (TakenBack count entry) undone
  pub part : Part
  pub part_is : first_on (changes (own_standing before.book.entries session)) k ≡ Some part
  pub stood : part.before ≡ Some r

-- the record stands at its key; and wherever asks lead from there, while it stands its list runs so
abbrev pub IsRestored : State → Key → Record → (State → Type 0) → Type 0
IsRestored undone k r Runs =
    (get (present undone.book) k ≡ Some r)
    × ((asks : List Answered) (ready : State) → AreInRange asks → Leads undone asks ready
    → get (present ready.book) k ≡ Some r → Runs ready)

abbrev pub PortRestored : State → ℕ → PortGates → Type 0
PortRestored undone port p = IsRestored undone (Port port) (records.Port p) (λ ready. PortRuns ready port p)

abbrev pub GateRestored : State → ℕ → StreamGate → Type 0
GateRestored undone gate g = IsRestored undone (Gate gate) (records.Gate g) (λ ready. GateRuns ready gate g)

-- so it is after an undo that put the record back, and after an undo of all that did
pub record RestoredList (before : State) : Type 0 where
  pub port : (undone : State) (port : ℕ) (p : PortGates) → PutsBack before undone (Port port) (records.Port p) → PortRestored undone port p
  pub gate : (undone : State) (gate : ℕ) (g : StreamGate) → PutsBack before undone (Gate gate) (records.Gate g) → GateRestored undone gate g
  pub port_of_all : (undone : State) (port : ℕ) (p : PortGates) → PutsAllBack before undone (Port port) (records.Port p)
      → PortRestored undone port p
  pub gate_of_all : (undone : State) (gate : ℕ) (g : StreamGate) → PutsAllBack before undone (Gate gate) (records.Gate g)
      → GateRestored undone gate g
