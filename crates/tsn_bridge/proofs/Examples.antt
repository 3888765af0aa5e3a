-- Worked examples of the definitions alone, where maps are to be computed.
use Rattle.std.proofs.Common.{◌≡◌, ◌∙◌, ℕ, Bool, true, false, cond, List, [], ◌∷◌, refl, sym, ap, subst, Some, None}
use Rattle.std.specs.Cmp.{nat_cmp_total}
use Rattle.std.specs.Ordering.{nat_cmp, eq_by_cmp}
use Rattle.std.specs.Prelude.{max, option_map}
use Rattle.std.specs.FinMap.{FinMap, entries, entries-from_sorted, from_entries, from_sorted, same_map, get-from_sorted, nat_cmp-IsAntisymmetric, get, get-from_entries, get-insert, insert}
use Rattle.tsn_types.specs.declared.keys.Key.{Key}
use Rattle.tsn_types.specs.declared.keys.Key.TheVariants.{Filter, Gate}
use Rattle.tsn_types.specs.declared.keys.Kind.TheVariants as kinds
use Rattle.tsn_types.specs.declared.records.StreamFilter.{StreamFilter}
use Rattle.tsn_types.specs.Examples.{gate_with}
use Rattle.tsn_types.specs.Keys.{same_key}
use Rattle.tsn_edit.specs.Configuration.{Configuration}
use Rattle.tsn_edit.proofs.KeyFacts.{one_key, same_configuration}
use Rattle.tsn_config.specs.Ids.{ids_of}
use Rattle.tsn_config.proofs.Examples.{inserted, listed, none_at, none_listed, removed}
use Rattle.tsn_schedule.specs.Examples.{gate_acts, gate_list}
use Rattle.tsn_chain.specs.declared.data.Met.{Met}
use Rattle.tsn_chain.specs.declared.data.FilterData.{FilterData}
use Rattle.tsn_chain.specs.declared.data.GateData.{GateData}
use Rattle.tsn_chain.specs.declared.frame.DropCause.TheVariants.{Closed, Octets}
use Rattle.tsn_chain.specs.declared.frame.Frame.{Frame}
use Rattle.tsn_chain.specs.declared.frame.Verdict.{Verdict}
use Rattle.tsn_chain.specs.declared.frame.Verdict.TheVariants.{Dropped, Passed}
use Rattle.tsn_chain.specs.declared.state.Counters.TheVariants as counters
use Rattle.tsn_chain.specs.Chain.{Case}
use Rattle.tsn_chain.specs.Chosen.{chosen, filter_rows, filters_of}
use Rattle.tsn_chain.specs.Counters.{gate_counters}
use Rattle.tsn_chain.specs.Examples.{Coming, filter_0, frame_of, left_by, no_meter}
use Rattle.tsn_chain.specs.Following.{new_filter, new_gate}
use Rattle.tsn_chain.specs.Frames.{GateActs, framed, framed_at, framed_by, state_at}
use Rattle.tsn_chain.specs.Instances.{FrameData}
use Rattle.tsn_undo.specs.Ledger.{present}
use Rattle.tsn_undo.specs.UndoAll.{others_alone}
use Rattle.tsn_commands.specs.declared.reply.Reply.{Reply}
use Rattle.tsn_commands.specs.declared.reply.Reply.TheVariants.{Framed}
use Rattle.tsn_bridge.specs.Beginning.{standard}
use Rattle.tsn_bridge.specs.Frames.{acts_of_gates, framed_state}
use Rattle.tsn_bridge.specs.Looking.{counted_at}
use Rattle.tsn_bridge.specs.State.{State}
use Rattle.tsn_bridge.specs.Examples.{answers, any_stream, book_of, closed_gate, gate_runs, in_turns, one_left, rows_1, rows_2, rows_3, rows_new, with_rows}

-- ---- an undo of all that keeps another session's edits

-- what the key has where neither of the keys taken out is asked for
same_at : (a b : Bool) (k : Key) → same_key k (Gate 1) ≡ a → same_key k (Filter 0) ≡ b
    → get (present (book_of one_left)) k ≡ get (others_alone (book_of in_turns) 1) k
same_at true b k gate_1 filter_0 =
    subst (λ q. get (present (book_of one_left)) q ≡ get (others_alone (book_of in_turns) 1) q) (sym (one_key k (Gate 1) gate_1))
    (simp (inserted, removed, none_at))
same_at false true k gate_1 filter_0 =
    subst (λ q. get (present (book_of one_left)) q ≡ get (others_alone (book_of in_turns) 1) q) (sym (one_key k (Filter 0) filter_0))
    (simp (inserted, removed, none_at))
same_at false false k gate_1 filter_0 = simp (inserted, removed, gate_1, filter_0)

pub left_is : present (book_of one_left) ≡ others_alone (book_of in_turns) 1
left_is = same_configuration _ _ (λ k. same_at (same_key k (Gate 1)) (same_key k (Filter 0)) k refl refl)

filters_alone : ids_of kinds.Filter (others_alone (book_of in_turns) 1) ≡ 1 ∷ []
filters_alone = simp (listed, none_listed)

gates_alone : ids_of kinds.Gate (others_alone (book_of in_turns) 1) ≡ 2 ∷ []
gates_alone = simp (listed, none_listed)

pub filters_left : ids_of kinds.Filter (present (book_of one_left)) ≡ 1 ∷ []
filters_left = ap (ids_of kinds.Filter) left_is ∙ filters_alone

pub gates_left : ids_of kinds.Gate (present (book_of one_left)) ≡ 2 ∷ []
gates_left = ap (ids_of kinds.Gate) left_is ∙ gates_alone

-- ---- frames at a gate whose list runs

module _ {A : Type 0} where
  put_in : (t : FinMap nat_cmp A) (n : ℕ) (x : A) (m : ℕ) → get (insert t n x) m ≡ cond (eq_by_cmp nat_cmp m n) (Some x) (get t m)
  put_in = get-insert nat_cmp_total

abbrev held : Configuration
held = present (book_of gate_runs)

abbrev one_filter : List (ℕ × StreamFilter)
one_filter = (0, record { handle = None; priority = None; gate = 0; max_sdu = None; meter = None; oversize = false }) ∷ []

one_row : entries (from_entries {R = nat_cmp} one_filter) ≡ one_filter
one_row =
    ap entries (same_map nat_cmp_total nat_cmp-IsAntisymmetric (from_entries one_filter) (from_sorted one_filter)
    (λ q. get-from_entries nat_cmp_total one_filter q ∙ sym (get-from_sorted nat_cmp one_filter q tt)))
    ∙ entries-from_sorted nat_cmp one_filter tt

filters_are : filter_rows (entries held) ≡ one_filter
filters_are = simp (listed, none_listed)

chosen_is : (handle priority : ℕ) → chosen handle priority (filters_of held) ≡ Some 0
chosen_is handle priority = ap (λ rows. chosen handle priority (from_entries rows)) filters_are ∙ rw one_row refl

filter_is : get held (Filter 0) ≡ Some any_stream
filter_is = simp inserted

gate_is : get held (Gate 0) ≡ Some closed_gate
gate_is = simp inserted

abbrev acts_held : GateActs
acts_held = acts_of_gates (book_of gate_runs)

module _ (f : FrameData) (d : FilterData) (g : GateData) (has_filter : get f.filters 0 ≡ Some d) (has_gate : get f.gates 0 ≡ Some g) where
  abbrev case_of : Frame → ℕ → Case
  case_of frame time =
      let by = gate_with false true gate_list 2000 in
      record {
        number = 0;
        filter = record { handle = None; priority = None; gate = 0; max_sdu = None; meter = None; oversize = false };
        gate = by;
        state = state_at acts_held 0 by time;
        frame = frame;
        time = time;
        met = record { filter = d; gate = g; meter = None };
      }

  at_filter : (frame : Frame) (time : ℕ) → framed_at held f acts_held frame time (Some 0) ≡ Some (framed_by f (case_of frame time))
  at_filter frame time = rw (filter_is, gate_is, has_filter, has_gate) refl

  framed_here : (frame : Frame) (time : ℕ) (x : Verdict × FrameData) → framed_by f (case_of frame time) ≡ x
      → framed held f acts_held frame time ≡ Some x
  framed_here frame time x is =
      ap (framed_at held f acts_held frame time) (chosen_is frame.handle frame.priority) ∙ at_filter frame time ∙ ap Some is

  answered : (now : ℕ) (x : Coming) (v : Verdict) (new : FrameData)
      → framed_by f (case_of (record { handle = 7; priority = 2; octets = x.octets; yellow = false }) (max now x.time)) ≡ (v, new)
      → answers (with_rows now f) x ≡ Some (Framed v, with_rows (max now x.time) new)
  answered now x v new is =
      ap (option_map {T = Verdict × FrameData} {U = Reply × State} (λ y. (Framed y.0, framed_state (with_rows now f) x.time y.1)))
      (framed_here (record { handle = 7; priority = 2; octets = x.octets; yellow = false }) (max now x.time) (v, new) is)

-- what frames leave of the filter and the gate
abbrev left : List Coming → Met
left fs = left_by (filter_0 true gate_acts) no_meter fs

abbrev left_1 : Met
left_1 = left (frame_of 10 100 ∷ [])

abbrev left_2 : Met
left_2 = left (frame_of 10 100 ∷ frame_of 20 60 ∷ [])

pub frame_1 : answers (with_rows 0 rows_new) (frame_of 10 100) ≡ Some (Framed (Passed (Some 0) 10 5 false), with_rows 10 rows_1)
frame_1 = answered rows_new new_filter new_gate (put_in standard.frames.filters 0 new_filter 0) (put_in standard.frames.gates 0 new_gate 0)
    0 (frame_of 10 100) (Passed (Some 0) 10 5 false) rows_1 refl

pub frame_2 : answers (with_rows 10 rows_1) (frame_of 20 60) ≡ Some (Framed (Dropped 0 20 Octets), with_rows 20 rows_2)
frame_2 =
    answered rows_1 left_1.filter left_1.gate (put_in rows_new.filters 0 left_1.filter 0) (put_in rows_new.gates 0 left_1.gate 0)
    10 (frame_of 20 60) (Dropped 0 20 Octets) rows_2 refl

pub frame_3 : answers (with_rows 20 rows_2) (frame_of 2010 10) ≡ Some (Framed (Dropped 0 2010 Closed), with_rows 2010 rows_3)
frame_3 =
    answered rows_2 left_2.filter left_2.gate (put_in rows_1.filters 0 left_2.filter 0) (put_in rows_1.gates 0 left_2.gate 0)
    20 (frame_of 2010 10) (Dropped 0 2010 Closed) rows_3 refl

pub told_3 : counted_at (book_of gate_runs) rows_3 2010 (Gate 0)
    ≡ Some (counters.Gate (record { change_error = 0; change_time = Some 0; enabled = true; pending = false }) false true)
told_3 =
    ap (option_map (λ (d : GateData). gate_counters 2010 d (acts_held 0)))
    (put_in rows_2.gates 0 (left (frame_of 10 100 ∷ frame_of 20 60 ∷ frame_of 2010 10 ∷ [])).gate 0)
