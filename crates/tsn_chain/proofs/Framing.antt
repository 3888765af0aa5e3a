-- From what a frame meets to what is said of it.
use Rattle.std.proofs.Common.{◌≡◌, ℕ, refl, sym, ◌∙◌, ap, subst, true, ◌∷◌, Option, Some, None}
use Rattle.std.specs.Prelude.{IsSome, is_some}
use Rattle.std.specs.Option.{option_map}
use Rattle.std.specs.FinMap.{FinMap, get}
use Rattle.std.specs.Ordering.{nat_cmp}
use Rattle.std.proofs.lemmas.Bool.{or_left, or_right}
use Rattle.tsn_types.specs.declared.keys.Key.TheVariants.{Filter, Gate, Meter}
use Rattle.tsn_types.specs.declared.limits.Limits.{Limits}
use Rattle.tsn_types.specs.declared.records.Record.{Record}
use Rattle.tsn_types.specs.declared.records.Record.TheVariants as records
use Rattle.tsn_types.specs.declared.records.StreamFilter.{StreamFilter}
use Rattle.tsn_types.specs.declared.records.StreamGate.{StreamGate}
use Rattle.tsn_types.specs.Keys.{has, meter_ref, refs, same_key}
use Rattle.tsn_types.specs.Limits.{HoldsRecord}
use Rattle.tsn_types.specs.declared.records.GateEntry.{GateEntry}
use Rattle.tsn_config.specs.Kinds.{filter_of, gate_of}
use Rattle.tsn_edit.specs.Configuration.{Configuration, IsWellKept}
use Rattle.tsn_edit.proofs.KeyFacts.{same_itself}
use Rattle.tsn_schedule.specs.Kept.{Kept}
use Rattle.tsn_chain.specs.declared.frame.Frame.{Frame}
use Rattle.tsn_chain.specs.declared.frame.Verdict.{Verdict}
use Rattle.tsn_chain.specs.Frames.{GateActs, StandFor, framed}
use Rattle.tsn_chain.specs.Instances.{FrameData, HasFrameKeys, SameKeys}
use Rattle.tsn_chain.specs.Rows.{IsReady}

gate_there : (l : Limits) (n : ℕ) (v : Option Record) → IsSome v → ((r : Record) → v ≡ Some r → HoldsRecord l (Gate n) r)
    → (g : StreamGate) × (gate_of v ≡ Some g)
gate_there l n None there held = absurd (cc)
gate_there l n (Some (records.Port r)) there held = absurd (held (records.Port r) refl)
gate_there l n (Some (records.Filter r)) there held = absurd (held (records.Filter r) refl)
gate_there l n (Some (records.Gate r)) there held = (r, refl)
gate_there l n (Some (records.Meter r)) there held = absurd (held (records.Meter r) refl)

pub refers_to_gate : (q : StreamFilter) → has (refs (records.Filter q)) (Gate q.gate) ≡ true
refers_to_gate q = or_left (same_key (Gate q.gate) (Gate q.gate)) _ (same_itself (Gate q.gate))

pub refers_to_meter : (q : StreamFilter) (m : ℕ) → q.meter ≡ Some m → has (refs (records.Filter q)) (Meter m) ≡ true
refers_to_meter q m is = ap (λ o. has (Gate q.gate ∷ meter_ref o) (Meter m)) is
    ∙ or_right (same_key (Meter m) (Gate q.gate)) _ (or_left (same_key (Meter m) (Meter m)) _ (same_itself (Meter m)))

module _ (l : Limits) (c : Configuration) (t : FinMap nat_cmp StreamFilter) (same : (n : ℕ)
    → option_map records.Filter (get t n) ≡ get c (Filter n)) (kept : IsWellKept l c) where
  -- Where the instance data has the keys of the configuration, a filter finds what it refers to.
  pub ready : (runners : FinMap nat_cmp (Kept GateEntry)) (f : FrameData) (n : ℕ) (q : StreamFilter) → get t n ≡ Some q
      → SameKeys runners (λ m. Gate m) c → HasFrameKeys f c → IsReady c runners f n
  ready runners f n q row acts frames =
      let at : get c (Filter n) ≡ Some (records.Filter q) = sym (same n) ∙ ap (option_map records.Filter) row in
      let gate_key : IsSome (get c (Gate q.gate)) = kept.referred (Filter n) (records.Filter q) (Gate q.gate) at (refers_to_gate q) in
      let gate = gate_there l q.gate (get c (Gate q.gate)) gate_key (λ g is. (kept.within (Gate q.gate) g is).1) in
      record {
        filter = q;
        gate = gate.0;
        has_filter = ap filter_of at;
        has_gate = gate.1;
        has_runner = acts q.gate ∙ gate_key;
        keeps_filter = frames.filters n ∙ ap is_some at;
        keeps_gate = frames.gates q.gate ∙ gate_key;
        keeps_meter = λ m is. frames.meters m ∙ kept.referred (Filter n) (records.Filter q) (Meter m) at (refers_to_meter q m is);
      }

-- what is told of a runtime's fields, told of what it is seen as
pub seen : (c : Configuration) (frame : Frame) (gates gates' : FinMap nat_cmp (Kept GateEntry)) (f f' : FrameData) (t t' : ℕ)
    (answer : Option (Verdict × FrameData)) → gates ≡ gates' → f ≡ f' → t ≡ t'
    → ((acts : GateActs) → StandFor gates acts → framed c f acts frame t ≡ answer) → (acts : GateActs) → StandFor gates' acts
    → framed c f' acts frame t' ≡ answer
seen c frame gates gates' f f' t t' answer same kept time told acts stand =
    let stood : StandFor gates acts = subst (λ (m : FinMap nat_cmp (Kept GateEntry)). StandFor m acts) (sym same) stand in
    rw (← kept, ← time) (told acts stood)
