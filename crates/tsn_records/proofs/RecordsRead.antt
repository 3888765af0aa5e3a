-- Records by their kinds: what is read from a value of a kind's shape, whatever the text format.
use Rattle.std.proofs.Common.{◌≡◌, Ok, ap, subst, ◌∙◌}
use Rattle.tsn_types.specs.declared.keys.Kind.{Kind}
use Rattle.tsn_types.specs.declared.keys.Kind.TheVariants as kinds
use Rattle.tsn_types.specs.declared.records.Record.{Record}
use Rattle.tsn_types.specs.declared.records.Record.TheVariants as records
use Rattle.tsn_types.specs.InRange.{FilterInRange, GateInRange, MeterInRange, PortInRange, RecordInRange}
use Rattle.tsn_records.specs.Looks.{Look}
use Rattle.tsn_records.specs.Ranges.{port, filter, gate, meter, record_of}
use Rattle.tsn_records.specs.Records.{record_shape}
use Rattle.tsn_records.specs.Values.{kind_of_draft, record_draft}
use Rattle.tsn_records.specs.declared.drafts.RecordDraft.{RecordDraft}
use Rattle.tsn_records.specs.declared.drafts.RecordDraft.TheVariants as drafts
use Rattle.tsn_records.proofs.RecordRanges.{port_passed, filter_passed, gate_passed, meter_passed}
use Rattle.tsn_records.proofs.Shapes.{record_has}
use Rattle.tsn_records.proofs.Steps.{last_step}

-- a record of that kind, with every number in its range
abbrev pub InRangeOf : Kind → Record → Type 0
InRangeOf kinds.Port (records.Port r) = PortInRange r
InRangeOf kinds.Filter (records.Filter r) = FilterInRange r
InRangeOf kinds.Gate (records.Gate r) = GateInRange r
InRangeOf kinds.Meter (records.Meter r) = MeterInRange r
InRangeOf q r = ⊥

abbrev IsPassed : RecordDraft → Record → Type 0
IsPassed value r = (value ≡ record_draft r) × RecordInRange r

record_passed : (value : RecordDraft) (r : Record) → record_of value ≡ Ok r → IsPassed value r
record_passed (drafts.Port x) r h =
    last_step (port x) r (IsPassed (drafts.Port x)) records.Port h (λ y is. let p = port_passed x y is in (ap drafts.Port p.0, p.1))
record_passed (drafts.Filter x) r h =
    last_step (filter x) r (IsPassed (drafts.Filter x)) records.Filter h (λ y is.
    let p = filter_passed x y is in (ap drafts.Filter p.0, p.1))
record_passed (drafts.Gate x) r h =
    last_step (gate x) r (IsPassed (drafts.Gate x)) records.Gate h (λ y is. let p = gate_passed x y is in (ap drafts.Gate p.0, p.1))
record_passed (drafts.Meter x) r h =
    last_step (meter x) r (IsPassed (drafts.Meter x)) records.Meter h (λ y is. let p = meter_passed x y is in (ap drafts.Meter p.0, p.1))

of_its_kind : (q : Kind) (r : Record) → kind_of_draft (record_draft r) ≡ q → RecordInRange r → InRangeOf q r
of_its_kind q (records.Port r) is fits = subst (λ k. InRangeOf k (records.Port r)) is fits
of_its_kind q r is fits = subst (λ k. InRangeOf k r) is fits

-- a record that is read: the value has the shape of the record's draft, and the record is in range and of the value's kind
pub record_read : {D : Type 0} (look : Look D) (q : Kind) (d : D) (value : RecordDraft) (r : Record) → record_shape look q d ≡ Ok value
    → record_of value ≡ Ok r → (record_shape look q d ≡ Ok (record_draft r)) × InRangeOf q r
record_read look q d value r shape range =
    let passed = record_passed value r range in
    let is : record_shape look q d ≡ Ok (record_draft r) = shape ∙ ap (λ x. Ok x) passed.0 in
    (is, of_its_kind q r (record_has look q d (record_draft r) is).of passed.1)
