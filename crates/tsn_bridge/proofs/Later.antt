-- Every step leaves a whole state whole, and leads to a later one.
use Rattle.std.proofs.Common.{◌≡◌, ℕ, ◌+◌, ◌≤◌, List, [], ◌∷◌, ◌++◌, refl, sym, ◌∙◌, ap, subst, Option, Some, None, arith, length, append_assoc}
use Rattle.std.specs.Prelude.{is_some, option_map}
use Rattle.std.specs.List.{AllByRecursion}
use Rattle.std.specs.FinMap.{get}
use Rattle.std.specs.Option.{option_and_then}
use Rattle.tsn_types.specs.declared.keys.Key.{Key}
use Rattle.tsn_types.specs.declared.keys.Key.TheVariants.{Filter, Gate, Meter}
use Rattle.tsn_types.specs.declared.limits.Limits.{Limits}
use Rattle.tsn_types.specs.declared.records.Record.{Record}
use Rattle.tsn_types.specs.declared.records.Record.TheVariants as records
use Rattle.tsn_types.specs.declared.records.StreamFilter.{StreamFilter}
use Rattle.tsn_types.specs.declared.records.StreamGate.{StreamGate}
use Rattle.tsn_edit.specs.Changes.{Fits, after_change}
use Rattle.tsn_edit.specs.Configuration.{Configuration, IsWellKept}
use Rattle.tsn_edit.specs.Parts.{Change, inverse}
use Rattle.tsn_edit.specs.Runs.{run}
use Rattle.tsn_config.specs.Kinds.{filter_of, gate_of}
use Rattle.tsn_config.specs.Opening.{dangling_cause, limits_cause, opening, repeated_key}
use Rattle.tsn_config.proofs.OpeningKept.{opening_kept}
use Rattle.tsn_entries.specs.declared.entries.Entry.{Entry}
use Rattle.tsn_entries.specs.declared.entries.What.{What}
use Rattle.tsn_entries.specs.declared.entries.What.TheVariants.{Made, Undone, Redone, Acted, Settled}
use Rattle.tsn_entries.specs.Entries.{Applied, applies, undone}
use Rattle.tsn_entries.specs.Finding.{own_standing}
use Rattle.tsn_edit.proofs.Inverses.{each_weaker}
use Rattle.tsn_undo.specs.Ledger.{enter, present}
use Rattle.tsn_undo.specs.UndoAll.{with_undone}
use Rattle.tsn_undo.proofs.Adding.{configuration_push, nothing_push}
use Rattle.tsn_undo.proofs.Free.{or_none}
use Rattle.tsn_undo.proofs.Making.{kept_now}
use Rattle.tsn_undo.proofs.UndoAll.{IsTaken, begin_taken, free_of_all, next_taken, taken_to}
use Rattle.tsn_chain.specs.declared.data.Met.{Met}
use Rattle.tsn_chain.specs.declared.frame.Frame.{Frame}
use Rattle.tsn_chain.specs.declared.frame.Verdict.{Verdict}
use Rattle.tsn_chain.specs.Begun.{begun_runners}
use Rattle.tsn_chain.specs.Chain.{Case, through}
use Rattle.tsn_chain.specs.Following.{frames_after}
use Rattle.tsn_chain.specs.Chosen.{chosen, filters_of}
use Rattle.tsn_chain.specs.Frames.{GateActs, framed_at, framed_by, met_at, meter_at, state_at, with_met}
use Rattle.tsn_chain.specs.Instances.{FrameData, HasFrameKeys}
use Rattle.tsn_chain.proofs.FirstRows.{begun_keys}
use Rattle.tsn_chain.proofs.Framing.{refers_to_gate, refers_to_meter}
use Rattle.tsn_chain.proofs.Keys.{keys_fit, met_keys}
use Rattle.tsn_commands.specs.declared.command.Command.{Command}
use Rattle.tsn_commands.specs.declared.reply.Reply.{Reply}
use Rattle.tsn_bridge.specs.Acts.{instant}
use Rattle.tsn_bridge.specs.Beginning.{Opens, begun}
use Rattle.tsn_bridge.specs.Families.{Family, family}
use Rattle.tsn_bridge.specs.Frames.{acts_of_gates}
use Rattle.tsn_bridge.specs.Histories.{AreInRange, Leads, Answered}
use Rattle.tsn_commands.specs.Commands.{CommandInRange}
use Rattle.tsn_bridge.specs.Later.{ActsAreBy, IsBy, IsLater, IsWhole}
use Rattle.tsn_bridge.specs.Names.{AreWithin}
use Rattle.tsn_bridge.proofs.Naming.{within_next}
use Rattle.tsn_bridge.specs.Machine.{Step}
use Rattle.tsn_bridge.specs.State.{State}
use Rattle.tsn_bridge.specs.Together.{undone_by}
use Rattle.tsn_bridge.proofs.AtOnce.{done_of}
use Rattle.tsn_bridge.proofs.Families.{ActDone, AllUndone, Changed, FamilyInRange, FrameTaken, Greeted, Left, Same, SettledTo, in_range, leaves}
use Rattle.tsn_config.proofs.Joined.{all_joined}
use Rattle.tsn_bridge.proofs.Interleaving.{after_both, follows, itself}

-- ---- an entry that applied a change that fits

-- the rows follow a change, whatever runners there may be
frames_fit : (l : Limits) (c : Configuration) (f : FrameData) (now : ℕ) (e : Change) → IsWellKept l c → HasFrameKeys f c → Fits l c e
    → HasFrameKeys (frames_after now f e) (after_change c e)
frames_fit l c f now e kept h fits =
    let begun = begun_keys c l kept in
    (keys_fit l c (begun_runners c) f now e (record { ports = begun.ports; gates = begun.gates; frames = h }) fits).frames

by_applied : (time : ℕ) (w : What) (e : Change) → applies w ≡ Some e → IsBy time w
by_applied time (Made f) e is = tt
by_applied time (Undone n f) e is = tt
by_applied time (Redone n f) e is = tt
by_applied time (Acted act key a) e is = absurd (cc)
by_applied time (Settled upto) e is = absurd (cc)

-- ---- an undo of all

module _ (s : State) (n : ℕ) (h : IsWhole s) where
  abbrev undone_to : List Applied → List Entry
  undone_to ys = with_undone s.book.entries n ys

  frames_left : (xs ys : List Applied) → IsTaken s.book.limits s.book.opening s.book.entries n (xs ++ ys) []
      → HasFrameKeys (undone_by (frames_after s.time) s.frames ys) (present (record s.book { entries = undone_to ys }))
  frames_left xs [] t = h.frames
  frames_left xs (y ∷ ys) t =
      let more : IsTaken s.book.limits s.book.opening s.book.entries n ((xs ++ y ∷ []) ++ ys) [] = subst
      (λ zs. IsTaken s.book.limits s.book.opening s.book.entries n zs []) (sym (append_assoc xs (y ∷ []) ys)) t in
      let so_far = taken_to s.book.limits s.book.opening s.book.entries n (xs ++ y ∷ []) ys more in
      let step = (next_taken s.book.limits s.book.opening s.book.entries n xs y ys so_far).step in
      subst (λ c. HasFrameKeys (frames_after s.time (undone_by (frames_after s.time) s.frames ys) (inverse y.change)) c)
      (sym (configuration_push s.book.opening (undone_to ys) n (undone y) (inverse y.change) refl))
      (frames_fit s.book.limits (present (record s.book { entries = undone_to ys })) (undone_by (frames_after s.time) s.frames ys) s.time
      (inverse y.change)
      (kept_now (record s.book { entries = undone_to ys }) so_far.sound) (frames_left (xs ++ y ∷ []) ys more) step.fits)

acts_left : (s : State) (n : ℕ) → ActsAreBy s → (ys : List Applied)
    → AllByRecursion (λ e. IsBy s.time e.what) (with_undone s.book.entries n ys)
acts_left s n a [] = a
acts_left s n a (y ∷ ys) =
    let so_far = with_undone s.book.entries n ys in
    all_joined (λ (x : Entry). IsBy s.time x.what) so_far (record { number = length so_far + 1; session = n; what = undone y } ∷ [])
    (acts_left s n a ys) (tt, tt)

-- ---- an act, and a frame

-- what was done by a time was done by a later one
by_later : (early late : ℕ) (es : List Entry) → early ≤ late → AllByRecursion (λ e. IsBy early e.what) es
    → AllByRecursion (λ e. IsBy late e.what) es
by_later early late es le h =
    each_weaker (λ (x : Entry). IsBy early x.what) (λ (x : Entry). IsBy late x.what) (λ x by. longer x.what by) es h
  where
    longer : (w : What) → IsBy early w → IsBy late w
    longer (Made e) by = tt
    longer (Undone m e) by = tt
    longer (Redone m e) by = tt
    longer (Acted act key a) by = omega (arith, by, le)
    longer (Settled upto) by = tt

is_filter : (v : Option Record) (q : StreamFilter) → filter_of v ≡ Some q → v ≡ Some (records.Filter q)
is_filter None q e = (cc)
is_filter (Some (records.Port r)) q e = (cc)
is_filter (Some (records.Filter r)) q e = let same : r ≡ q = (cc) in ap (λ x. Some (records.Filter x)) same
is_filter (Some (records.Gate r)) q e = (cc)
is_filter (Some (records.Meter r)) q e = (cc)

module _ (l : Limits) (c : Configuration) (f : FrameData) (acts : GateActs) (frame : Frame) (time : ℕ) (kept : IsWellKept l c)
    (h : HasFrameKeys f c) where
  abbrev gives : Option Case → Verdict → FrameData → Type 0
  gives o v new = option_map {U = Verdict × FrameData} (framed_by f) o ≡ Some (v, new)

  abbrev is_back : ℕ → StreamFilter → FrameData → Type 0
  is_back n q new = (x : Case) × (new ≡ with_met f n q (through x).1)

  -- the case of the filter of a number and its gate, by what is kept of them
  abbrev case_of : ℕ → StreamFilter → StreamGate → Met → Case
  case_of n q g k = record { number = n; filter = q; gate = g; state = state_at acts q.gate g time; frame = frame; time = time; met = k }

  met_back : (n : ℕ) (q : StreamFilter) (g : StreamGate) (o : Option Met) (v : Verdict) (new : FrameData)
      → gives (option_map (case_of n q g) o) v new → is_back n q new
  met_back n q g None v new e = (cc)
  met_back n q g (Some k) v new e = (case_of n q g k, sym (ap (λ (p : Verdict × FrameData). p.1) (done_of _ _ e)))

  gate_back : (n : ℕ) (q : StreamFilter) (o : Option StreamGate) (v : Verdict) (new : FrameData)
      → gives (option_and_then (λ g. option_map (case_of n q g) (met_at f n q (meter_at c q.meter))) o) v new → is_back n q new
  gate_back n q None v new e = (cc)
  gate_back n q (Some g) v new e = met_back n q g (met_at f n q (meter_at c q.meter)) v new e

  filter_back : (n : ℕ) (o : Option StreamFilter) (v : Verdict) (new : FrameData)
      → gives (option_and_then (λ q. option_and_then (λ g. option_map (case_of n q g) (met_at f n q (meter_at c q.meter)))
      (gate_of (get c (Gate q.gate)))) o) v new
      → (q : StreamFilter) × (o ≡ Some q) × is_back n q new
  filter_back n None v new e = (cc)
  filter_back n (Some q) v new e = (q, refl, gate_back n q (gate_of (get c (Gate q.gate))) v new e)

  framed_keys : (o : Option ℕ) (v : Verdict) (new : FrameData) → framed_at c f acts frame time o ≡ Some (v, new) → HasFrameKeys new c
  framed_keys None v new e = subst (λ x. HasFrameKeys x c) (ap (λ (p : Verdict × FrameData). p.1) (done_of _ _ e)) h
  framed_keys (Some n) v new e =
      let back = filter_back n (filter_of (get c (Filter n))) v new e in
      let q = back.0 in
      let at = is_filter (get c (Filter n)) q back.1 in
      subst (λ x. HasFrameKeys x c) (sym back.2.1)
      (met_keys f n q (through back.2.0).1 c (h.filters n ∙ ap is_some at)
      (h.gates q.gate ∙ kept.referred (Filter n) (records.Filter q) (Gate q.gate) at (refers_to_gate q))
      (λ m is. h.meters m ∙ kept.referred (Filter n) (records.Filter q) (Meter m) at (refers_to_meter q m is)) h)

-- what no entry applied stays, and so do the keys
quiet_keeps : (s : State) (n : ℕ) (w : What) → applies w ≡ None → HasFrameKeys s.frames (present s.book)
    → HasFrameKeys s.frames (present (enter s.book n w))
quiet_keeps s n w none h = subst (λ c. HasFrameKeys s.frames c) (sym (ap (run s.book.opening) (nothing_push s.book.entries n w none))) h

-- ---- each way in which a step leaves the state

frames_kept : (s : State) (n : ℕ) (f : Family) (new : State) → IsWhole s → FamilyInRange f → Left s n f new
    → HasFrameKeys new.frames (present new.book)
frames_kept s n f new h ranges Same = h.frames
frames_kept s n f new h ranges (Greeted name) = h.frames
frames_kept s n f new h ranges (Changed w e apply good) =
    subst (λ c. HasFrameKeys (frames_after s.time s.frames e) c) (sym (configuration_push s.book.opening s.book.entries n w e apply))
    (frames_fit s.book.limits (present s.book) s.frames s.time e (kept_now s.book h.journal) h.frames (good h.journal ranges).0)
frames_kept s n f new h ranges (AllUndone free) =
    frames_left s n h [] (own_standing s.book.entries n)
    (begin_taken s.book.limits s.book.opening s.book.entries n h.journal (free_of_all s.book n free).none)
frames_kept s n f new h ranges (SettledTo upto) = quiet_keeps s n (Settled upto) refl h.frames
frames_kept s n f new h ranges (ActDone act k now none) = quiet_keeps s n (Acted act k (instant s now)) refl h.frames
frames_kept s n f new h ranges (FrameTaken frame now x of is) =
    framed_keys s.book.limits (present s.book) s.frames (acts_of_gates s.book) frame (instant s now) (kept_now s.book h.journal) h.frames
    (chosen frame.handle frame.priority (filters_of (present s.book))) x.0 x.1 is

names_kept : (s : State) (n : ℕ) (f : Family) (new : State) → AreWithin 0 s.names s.sessions → Left s n f new
    → AreWithin 0 new.names new.sessions
names_kept s n f new h Same = h
names_kept s n f new h (Greeted name) = within_next s.sessions name s.names h
names_kept s n f new h (Changed w e apply good) = h
names_kept s n f new h (AllUndone free) = h
names_kept s n f new h (SettledTo upto) = h
names_kept s n f new h (ActDone act k now none) = h
names_kept s n f new h (FrameTaken frame now x of is) = h

-- one entry more, and every act was done by the time
by_entry : (s : State) (n : ℕ) (w : What) (time : ℕ) → s.time ≤ time → IsBy time w → ActsAreBy s
    → AllByRecursion (λ e. IsBy time e.what) (enter s.book n w).entries
by_entry s n w time late by a =
    all_joined (λ (x : Entry). IsBy time x.what) s.book.entries (record { number = length s.book.entries + 1; session = n; what = w } ∷ [])
    (by_later s.time time s.book.entries late a) (by, tt)

acts_kept : (s : State) (n : ℕ) (f : Family) (new : State) → Left s n f new → ActsAreBy s → ActsAreBy new
acts_kept s n f new Same a = a
acts_kept s n f new (Greeted name) a = a
acts_kept s n f new (Changed w e apply good) a = by_entry s n w s.time (omega arith) (by_applied s.time w e apply) a
acts_kept s n f new (AllUndone free) a = acts_left s n a (own_standing s.book.entries n)
acts_kept s n f new (SettledTo upto) a = by_entry s n (Settled upto) s.time (omega arith) tt a
acts_kept s n f new (ActDone act k now none) a = by_entry s n (Acted act k (instant s now)) (instant s now) (omega arith) (omega arith) a
acts_kept s n f new (FrameTaken frame now x of is) a = by_later s.time (instant s now) s.book.entries (omega arith) a

-- ---- each step, and each list of them

pub goes_on : (s : State) (n : ℕ) (command : Command) (reply : Reply) (new : State) → IsWhole s → CommandInRange command
    → Step s n command reply new → IsWhole new × IsLater s new × (ActsAreBy s → ActsAreBy new)
goes_on s n command reply new h ranges step =
    let f = family command in
    let l = (leaves s n f reply new step).how in
    let kept = follows s n command reply new h.journal ranges step in (
      record { journal = kept.sound; frames = frames_kept s n f new h (in_range command ranges) l; names = names_kept s n f new h.names l },
      kept.later,
      acts_kept s n f new l,
    )

pub all_go_on : (ts : List Answered) (s new : State) → IsWhole s → AreInRange ts → Leads s ts new
    → IsWhole new × IsLater s new × (ActsAreBy s → ActsAreBy new)
all_go_on [] s new h ranges same = subst (λ t. IsWhole t × IsLater s t × (ActsAreBy s → ActsAreBy t)) (sym same) (h, itself s, λ a. a)
all_go_on (t ∷ ts) s new h ranges (between, step, rest) =
    let one = goes_on s t.ask.session t.ask.command t.reply between h ranges.0 step in
    let more = all_go_on ts between new one.0 ranges.1 rest in
    (more.0, after_both s between new one.1 more.1, λ a. more.2 (one.2 a))

-- ---- at the beginning

pub whole_begun : (l : Limits) (records : List (Key × Record)) → Opens l records → IsWhole (begun l records)
whole_begun l records opens =
    let causes = or_none (limits_cause l records) _ opens.admitted in
    let others = or_none (repeated_key [] records) _ causes.1 in
    let dangling = or_none (dangling_cause (opening l records)) None others.1 in
    let kept = opening_kept l records (opening l records) opens.bounds opens.ranges opens.kinds causes.0 refl dangling.0 in
    record {
      journal = record { numbered = tt; kept = kept; replays = tt; settled = tt; good = tt; same = refl };
      frames = (begun_keys (opening l records) l kept).frames;
      names = omega arith;
    }
